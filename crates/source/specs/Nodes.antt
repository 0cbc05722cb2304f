-- Nodes, and what the functions on their table do.
use Rattle.std.specs.Prelude.{◌≡◌, ℕ, ◌-◌, cond, List, [], ◌∷◌, ◌++◌, length, None, Ok, Err, Option, Result, nat_lt, slice_index_or, slice_set}
use Rattle.names.specs.declared.part.Part.{Part}
use Rattle.source.specs.declared.nodes.Content.{Content}
use Rattle.source.specs.declared.nodes.Content.TheVariants.{Null}
use Rattle.source.specs.declared.nodes.Node.{Node}
use Rattle.source.specs.Contents.{text_put}

-- what stands for a node that is not there
abbrev pub blank : Node
blank = record { content = Null; place = 0; size = 0; name = None }

abbrev pub node_at : List Node → ℕ → Node
node_at nodes at = slice_index_or nodes at blank

-- a node with nothing below it yet
abbrev pub headed : Content → ℕ → Option Part → Node
headed content place name = record { content = content; place = place; size = 1; name = name }

-- a node of another size
abbrev pub sized : Node → ℕ → Node
sized n k = record { content = n.content; place = n.place; size = k; name = n.name }

-- all nodes after the one at `at` are below it
abbrev pub closed : List Node → ℕ → List Node
closed nodes at = cond (nat_lt at (length nodes)) (slice_set nodes at (sized (node_at nodes at) (length nodes - at))) nodes

-- a node whose bytes stand in the part, if it writes any
abbrev pub texted : Node → Part → Node
texted n p = record { content = text_put n.content p; place = n.place; size = n.size; name = n.name }

-- the node at `at` has its bytes in the part
abbrev pub text_set : List Node → ℕ → Part → List Node
text_set nodes at p = cond (nat_lt at (length nodes)) (slice_set nodes at (texted (node_at nodes at) p)) nodes

-- a node was added at the end, or there was no memory
abbrev pub AddTold : {E : Type 0} → List Node → List Node → Node → Result Unit E → Type 0
AddTold before after node (Ok u) = after ≡ before ++ node ∷ []
AddTold before after node (Err e) = after ≡ before
