-- One node through a builder: the builder after it, and the words.
use Rattle.std.specs.Prelude.{Option, None, Some, Bool, true, false, List, ℕ, ◌+◌, ◌-◌, ◌≤◌, ◌<◌, ltb, length, get_or}
use Rattle.meaning.specs.Bits.{stored}
use Rattle.pioneers.specs.declared.string.Builder.{Builder}

-- a node of level v: it "closes every open node of level v or more, then opens"
abbrev pub node_of : Builder → ℕ → Builder
node_of s v = record { nodes = s.nodes + 1; bits = s.bits + (s.prev - v) + 1; prev = v + 1 }

-- the level of the list's next node
abbrev pub level_of : List ℕ → Builder → ℕ
level_of vs s = get_or vs s.nodes 0

-- the builder after the next node, if the list has one (true)
abbrev pub once_if : Bool → List ℕ → Builder → Option Builder
once_if true vs s = Some (node_of s (level_of vs s))
once_if false vs s = None

abbrev pub once_of : List ℕ → Builder → Option Builder
once_of vs s = once_if (ltb s.nodes (length vs)) vs s

abbrev pub wrote_if : Bool → List ℕ → List ℕ → Builder → List ℕ
wrote_if true vs ws s = stored ws (s.bits + (s.prev - level_of vs s)) true
wrote_if false vs ws s = ws

abbrev pub wrote_of : List ℕ → List ℕ → Builder → List ℕ
wrote_of vs ws s = wrote_if (ltb s.nodes (length vs)) vs ws s

-- the next node lies at most one level below the one before, and the counts are small
pub record Allows (vs : List ℕ) (s : Builder) : Type 0 where
  pub level : s.nodes < length vs → level_of vs s ≤ s.prev
  pub bits : s.bits + s.prev < 4294967296
  pub nodes : s.nodes < 4294967296
