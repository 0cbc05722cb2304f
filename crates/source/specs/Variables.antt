-- Values that hold variables.
use Rattle.std.specs.Prelude.{ℕ, Bool}
use Rattle.model.specs.Values.{Name, Raw}
use Rattle.model.specs.Checking.{VariableIn}
use Rattle.source.specs.declared.nodes.Node.{Node}
use Rattle.source.specs.Contents.{variable_in}

-- a variable, somewhere in the value
abbrev pub HoldsVariable : Raw → Type 0
HoldsVariable t = (at : ℕ) × (n : Name) × VariableIn at n t

-- whether a node is a variable's
abbrev pub is_variable : Node → Bool
is_variable n = variable_in n.content
