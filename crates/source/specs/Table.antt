-- The table of nodes, and which tree stands at a node.
use Rattle.std.specs.Prelude.{◌≡◌, ℕ, ◌+◌, ◌<◌, ◌≤◌, List, ◌++◌, length, Some, vec_items}
use Rattle.model.specs.Values.{Raw, Raws, Mems, null, scalar, variable, list, object, nil, cons, end, mem, place_of}
use Rattle.model.specs.Limits.{RawLimits, RawLimitsAll, RawLimitsMems}
use Rattle.names.specs.declared.part.Part.{Part}
use Rattle.names.specs.Parts.{PartFits, MayFit, bytes_of, bytes_if_any}
use Rattle.source.specs.declared.raw.Span.{Span}
use Rattle.source.specs.declared.nodes.Node.{Node}
use Rattle.source.specs.declared.nodes.Nodes.{Nodes}
use Rattle.source.specs.declared.tree.Tree.{Tree}
use Rattle.source.specs.Nodes.{node_at}
use Rattle.source.specs.Contents.{kind_in, flag_in, text_in, negative_in, exponent_in}
use Rattle.source.specs.Heads.{kind_of, flag_of, text_of, negative_of, exponent_of}

-- the cursor past a node and all below it
abbrev pub past_of : List Node → ℕ → ℕ
past_of nodes at = at + (node_at nodes at).size

-- the text, the nodes, and the bytes that the text does not hold as they are
pub record Table : Type 0 where
  pub text : List ℕ
  pub nodes : List Node
  pub pool : List ℕ

abbrev pub table_of : List ℕ → Nodes → Table
table_of text n = record { text = text; nodes = vec_items n.list; pool = vec_items n.pool }

abbrev pub tree_table : Tree → Table
tree_table t = table_of t.text.now t.nodes

-- the node says what the value says of itself
pub record Says (T : Table) (n : Node) (t : Raw) : Type 0 where
  pub kind : kind_in n.content ≡ kind_of t
  pub place : n.place ≡ place_of t
  pub flag : flag_in n.content ≡ flag_of t
  pub negative : negative_in n.content ≡ negative_of t
  pub exponent : exponent_in n.content ≡ exponent_of t
  pub fits : MayFit T.text T.pool (text_in n.content)
  pub text : bytes_if_any T.text T.pool (text_in n.content) ≡ text_of t

-- the node at the cursor says what the value says, and what is below it ends within the table
pub record Head (T : Table) (at : ℕ) (t : Raw) : Type 0 where
  pub says : Says T (node_at T.nodes at) t
  pub some : at < past_of T.nodes at
  pub inside : past_of T.nodes at ≤ length T.nodes

-- the node at the cursor is a member of that name
pub record Named (T : Table) (at : ℕ) (n : List ℕ) : Type 0 where
  pub part : Part
  pub some : (node_at T.nodes at).name ≡ Some part
  pub fits : PartFits T.text T.pool part
  pub is : bytes_of T.text T.pool part ≡ n

-- a value's nodes: its own, and after it those of its items or members, up to the cursor past it
abbrev mutual
  pub Stands : Table → ℕ → Raw → Type 0
  Stands T at (null p) = Head T at (null p) × ((node_at T.nodes at).size ≡ 1)
  Stands T at (scalar p s) = Head T at (scalar p s) × ((node_at T.nodes at).size ≡ 1)
  Stands T at (variable p n) = Head T at (variable p n) × ((node_at T.nodes at).size ≡ 1)
  Stands T at (list p xs) = Head T at (list p xs) × StandsAll T (at + 1) (past_of T.nodes at) xs
  Stands T at (object p ms) = Head T at (object p ms) × StandsMems T (at + 1) (past_of T.nodes at) ms

  pub StandsAll : Table → ℕ → ℕ → Raws → Type 0
  StandsAll T i j nil = i ≡ j
  StandsAll T i j (cons x xs) = Stands T i x × StandsAll T (past_of T.nodes i) j xs

  pub StandsMems : Table → ℕ → ℕ → Mems → Type 0
  StandsMems T i j end = i ≡ j
  StandsMems T i j (mem n x ms) = Named T i n × Stands T i x × StandsMems T (past_of T.nodes i) j ms

-- the tree at a cursor, the items and the members in a span: within the limits of a source
pub record Held (T : Table) (at : ℕ) (t : Raw) : Type 0 where
  pub stands : Stands T at t
  pub within : RawLimits 0 t

pub record HeldAll (T : Table) (s : Span) (xs : Raws) : Type 0 where
  pub stand : StandsAll T s.from s.to xs
  pub within : RawLimitsAll 0 xs

pub record HeldMems (T : Table) (s : Span) (ms : Mems) : Type 0 where
  pub stand : StandsMems T s.from s.to ms
  pub within : RawLimitsMems 0 ms

-- T becomes U: nodes from k on stay as they are, and the text and the pool do, which may grow
pub record Keeps (k : ℕ) (T U : Table) : Type 0 where
  pub text : U.text ≡ T.text
  pub more : List ℕ
  pub pool : U.pool ≡ T.pool ++ more
  pub grows : length T.nodes ≤ length U.nodes
  pub nodes : (i : ℕ) → k ≤ i → i < length T.nodes → node_at U.nodes i ≡ node_at T.nodes i
