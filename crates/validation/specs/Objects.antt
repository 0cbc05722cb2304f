-- Objects in a table of nodes whose members have names of their own.
use Rattle.std.specs.Prelude.{◌≡◌, ℕ, ◌+◌, ◌<◌, ◌≤◌, length}
use Rattle.model.specs.Values.{Mems}
use Rattle.model.specs.Back.{Distinct}
use Rattle.model.specs.Limits.{mem_names}
use Rattle.source.specs.declared.raw.Kind.TheVariants.{Object}
use Rattle.source.specs.Contents.{kind_in}
use Rattle.source.specs.Nodes.{node_at}
use Rattle.source.specs.Table.{Table, past_of, StandsMems}

-- no two members of the object at the cursor have one name
abbrev pub ApartAt : Table → ℕ → Type 0
ApartAt T at = past_of T.nodes at ≤ length T.nodes → (ms : Mems) → StandsMems T (at + 1) (past_of T.nodes at) ms → Distinct (mem_names ms)

-- the same of each object before a cursor, and of each
abbrev pub ApartBefore : Table → ℕ → Type 0
ApartBefore T k = (i : ℕ) → i < k → kind_in (node_at T.nodes i).content ≡ Object → ApartAt T i

abbrev pub AllApart : Table → Type 0
AllApart T = ApartBefore T (length T.nodes)
