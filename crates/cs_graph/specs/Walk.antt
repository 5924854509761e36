-- What holds while a graph is walked: each number is new, open (its frame is on the path), or done.
use Rattle.std.specs.Prelude.{◌≡◌, ℕ, ◌+◌, ◌*◌, ◌<◌, ◌≤◌, Bool, true, false, List, [], Option, Some, None, Result, Ok, Err, map, length, slice_get, get_or, take, count_by, Vec}
use Rattle.std.specs.declared.alloc.Global.{Global}
use Rattle.cs_graph.specs.Chains.{On, Distinct, Chain, NoCycle}
use Rattle.cs_graph.specs.Graph.{Graph, Refers, AreHeights, FallAlong, IsRefusal}
use Rattle.cs_graph.specs.Paths.{Links}
use Rattle.cs_graph.specs.declared.fault.GraphFault.{GraphFault}
use Rattle.cs_graph.specs.declared.walk.Frame.{Frame}
use Rattle.cs_graph.specs.declared.walk.VisitState.{VisitState}
use Rattle.cs_graph.specs.declared.walk.Walk.{Walk}
use Rattle.cs_graph.specs.declared.walk.VisitState.TheVariants.{New, Open, Done}

abbrev pub is_new : VisitState → Bool
is_new New = true
is_new Open = false
is_new (Done h) = false

abbrev pub is_done : VisitState → Bool
is_done New = false
is_done Open = false
is_done (Done h) = true

-- the height of a number that is done
abbrev pub height_of : VisitState → ℕ
height_of New = 0
height_of Open = 0
height_of (Done h) = h

-- a number of which no reference is passed
abbrev pub frame_of : ℕ → Frame
frame_of n = record { number = n; passed = 0; height = 0 }

abbrev pub numbers_of : List Frame → List ℕ
numbers_of fs = map (λ f. f.number) fs

-- a chain of that length begins at n
pub record HasChain (G : Graph) (n h : ℕ) : Type 0 where
  pub steps : List ℕ
  pub chain : Chain (Refers G) n steps
  pub long : length steps ≡ h

-- m is done with a height below h
pub record Below (M : List VisitState) (m h : ℕ) : Type 0 where
  pub height : ℕ
  pub done : slice_get M m ≡ Some (Done height)
  pub less : height < h

-- h is the height of n: a chain of that length begins there, and the heights of what n refers to are below h
pub record Settled (G : Graph) (M : List VisitState) (n h : ℕ) : Type 0 where
  pub chain : HasChain G n h
  pub low : (m : ℕ) → Refers G n m → Below M m h
  pub few : h < count_by is_done M

-- each number that is done has its height
pub record Marked (G : Graph) (M : List VisitState) : Type 0 where
  pub long : length M ≡ length G
  pub settled : (n h : ℕ) → slice_get M n ≡ Some (Done h) → Settled G M n h

-- and the path P is one of references, and has the open numbers
pub record State (G : Graph) (M : List VisitState) (P : List ℕ) : Type 0 where
  pub marked : Marked G M
  pub entered : (n : ℕ) → slice_get M n ≡ Some Open → On n P
  pub opened : (n : ℕ) → On n P → slice_get M n ≡ Some Open
  pub links : Links (Refers G) P
  pub distinct : Distinct P

-- the references that a frame has passed are to numbers that are done, and by these its height is that of its number
pub record Passed (G : Graph) (M : List VisitState) (f : Frame) : Type 0 where
  pub chain : HasChain G f.number f.height
  pub low : (m : ℕ) → On m (take f.passed (get_or G f.number [])) → Below M m f.height
  pub few : f.height ≤ count_by is_done M

-- all of this of the frames of a path
pub record Walking (G : Graph) (M : List VisitState) (S : List Frame) : Type 0 where
  pub state : State G M (numbers_of S)
  pub passed : (f : Frame) → On f S → Passed G M f

pub record IsDone (M : List VisitState) (n : ℕ) : Type 0 where
  pub height : ℕ
  pub done : slice_get M n ≡ Some (Done height)

-- where the references of n end, or which one is the next
abbrev pub StopsAt : Graph → List VisitState → Frame → Option ℕ → Type 0
StopsAt G M f None = (m : ℕ) → Refers G f.number m → Below M m f.height
StopsAt G M f (Some m) = Refers G f.number m × (IsDone M m → ⊥)

-- the references of n are passed up to there
pub record Stopped (G : Graph) (M : List VisitState) (n : ℕ) (f : Frame) (stop : Option ℕ) : Type 0 where
  pub same : f.number ≡ n
  pub passed : Passed G M f
  pub stops : StopsAt G M f stop

-- what is done stays, and nothing becomes new
pub record Keeps (old new : List VisitState) : Type 0 where
  pub done : (n h : ℕ) → slice_get old n ≡ Some (Done h) → slice_get new n ≡ Some (Done h)
  pub entered : (n : ℕ) → slice_get new n ≡ Some New → slice_get old n ≡ Some New

-- how many entries and returns are left: a number that is new has both before it, one on the path its return
abbrev pub left : List VisitState → ℕ → ℕ
left M open_count = 2 * count_by is_new M + open_count

-- the walk goes on, with less before it than where one more stood on the path
pub record Onward (G : Graph) (M N : List VisitState) (S T : List Frame) : Type 0 where
  pub walking : Walking G N T
  pub kept : Keeps M N
  pub fewer : left N (length T) < left M (length S + 1)

abbrev pub Stepped : Graph → Walk → Walk → Result (Unit {0}) GraphFault → Type 0
Stepped G v w (Ok u) = Onward G v.marks.items w.marks.items v.path.items w.path.items
Stepped G v w (Err e) = IsRefusal e G

-- n is done, and nothing is open
pub record Reached (G : Graph) (M N : List VisitState) (n : ℕ) : Type 0 where
  pub state : State G N []
  pub kept : Keeps M N
  pub done : IsDone N n

abbrev pub Walked : Graph → List VisitState → List VisitState → ℕ → Result (Unit {0}) GraphFault → Type 0
Walked G M N n (Ok u) = Reached G M N n
Walked G M N n (Err e) = IsRefusal e G

-- these are the heights of all numbers
pub record Solved (G : Graph) (heights : List ℕ) : Type 0 where
  pub each : AreHeights G heights
  pub fall : FallAlong G heights
  pub acyclic : NoCycle (Refers G)

abbrev pub Found : Graph → Result (Vec ℕ Global) GraphFault → Type 0
Found G (Ok v) = Solved G v.items
Found G (Err e) = IsRefusal e G
