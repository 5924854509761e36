-- What is left out is a note, and which notes are.
use Rattle.std.proofs.Common.{◌≡◌, ◌⊎◌, inl, inr, ℕ, Bool, true, false, ◌||◌, List, bytes_eq, codes, refl}
use Rattle.std.proofs.lemmas.Slice.Eq.{bytes_eq-Decides}
use Rattle.cs_describe.specs.declared.note.Note.{Note}
use Rattle.cs_describe.specs.declared.note.Note.TheVariants as note
use Rattle.cs_describe.specs.Described.{note_name}
use Rattle.cs_describe.specs.Plain.{is_default, is_note, LeavesOutNotes}

pub defaults_are_notes : LeavesOutNotes is_default
defaults_are_notes k e = inr ((bytes_eq-Decides (codes "default") k).0 e)

either : (k : List ℕ) (b : Bool) → bytes_eq (codes "description") k ≡ b → (b || is_default k) ≡ true → (codes "description" ≡ k) ⊎ (codes "default" ≡ k)
either k true is e = inl ((bytes_eq-Decides (codes "description") k).0 is)
either k false is e = defaults_are_notes k e

pub notes_are_notes : LeavesOutNotes is_note
notes_are_notes k e = either k (bytes_eq (codes "description") k) refl e

pub is_note_of : (w : Note) → is_note (note_name w) ≡ true
is_note_of note.Description = refl
is_note_of note.Default = refl
