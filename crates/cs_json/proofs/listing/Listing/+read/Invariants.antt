use Rattle.std.proofs.Common.{◌≡◌, ◌+◌, ◌*◌, ◌≤◌, length}
use Rattle.json.specs.Json.{value, items, members}
use Rattle.serde_json.specs.Data.{no_members}
use Rattle.serde_json.specs.Read.{of_items, of_members, converted}
use Rattle.cs_json.proofs.Turns.{ElementsRead, MembersRead}
use Rattle.cs_json.proofs.listing.Listing.+read.Given as goal

abbrev pub decreases-read : goal.decreases-read
decreases-read l = 2 * l.depth

abbrev pub decreases-read_list : goal.decreases-read_list
decreases-read_list l = 2 * l.depth + 1

abbrev pub decreases-read_map : goal.decreases-read_map
decreases-read_map l = 2 * l.depth + 1

abbrev pub invariant-read_list-elements : goal.invariant-read_list-elements
invariant-read_list-elements l =
    let before = l.initial.self in record {
      so_far : ElementsRead (converted of_items (items (value l.depth) (length before.reader) before.reader)) (value l.depth) l.self.reader before.items l.self.items
          before.elements.items l.self.elements.items;
      shorter : length l.self.reader ≤ length before.reader;
      entries : l.self.entries.items ≡ before.entries.items;
    }

abbrev pub decreases-read_list-elements : goal.decreases-read_list-elements
decreases-read_list-elements l = length l.self.reader

abbrev pub invariant-read_map-members : goal.invariant-read_map-members
invariant-read_map-members l =
    let before = l.initial.self in record {
      so_far : MembersRead (converted (λ ms. of_members ms no_members) (members (value l.depth) (length before.reader) before.reader)) (value l.depth) l.self.reader before.items l.self.items
          before.entries.items l.self.entries.items;
      shorter : length l.self.reader ≤ length before.reader;
      elements : l.self.elements.items ≡ before.elements.items;
    }

abbrev pub decreases-read_map-members : goal.decreases-read_map-members
decreases-read_map-members l = length l.self.reader
