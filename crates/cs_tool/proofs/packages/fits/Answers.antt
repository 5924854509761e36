use Rattle.std.proofs.Common.{◌≡◌, ℕ, ◌+◌, ◌<◌, ◌≤◌, List, [], Bor, length, get_or, map, take, arith}
use Rattle.std.proofs.lemmas.Bool.{false≢true}
use Rattle.std.proofs.lemmas.List.{length-map, get_or-map, take-map}
use Rattle.std.proofs.lemmas.List.Sums.{sum_by_more_le}
use Rattle.cs_tool.specs.Texts.{most_bytes, bytes_of}
use Rattle.cs_tool.proofs.packages.fits.Goals as goal

-- where a source is longer than what those before it leave, all are too long
too_long : {X : Type 0} (f : X → List ℕ) (xs : List X) (i left : ℕ) (d : X) → i < length xs → left + bytes_of (map f (take i xs)) ≡ most_bytes → ¬ (length (f (get_or xs i d)) ≤ left) → ¬ (bytes_of (map f xs) ≤ most_bytes)
too_long f xs i left d lt sum over within =
    let inside : i < length (map f xs) = simp length-map lt in
    let up_to = simp (take-map, get_or-map f xs i d (f d) lt) at (sum_by_more_le length (map f xs) i (f d) inside) in
    over (omega arith)

pub returns-in-None : goal.returns-in-None
returns-in-None c =
    (λ e. absurd (false≢true e), λ within. absurd (too_long (λ (s : Bor (List ℕ)). s.now) c.args.sources.now c.loop-source.source-index c.loop-source.left (record { ref_ptr = (0, 0); now = [] }) c.loop-source-test.true c.loop-source.invariant c.in-None.ensures within))
