-- The words of the layers, as the bytes of ASCII.
use Rattle.std.specs.Prelude.{ℕ, List, ◌∷◌, []}
use Rattle.schema.specs.declared.layer.Layer.{Layer}
use Rattle.schema.specs.declared.layer.Layer.TheVariants.{Text, Schema, Value, Request}

-- "text", "schema", "value", "request"
abbrev pub word_of : Layer → List ℕ
word_of Text = 116 ∷ 101 ∷ 120 ∷ 116 ∷ []
word_of Schema = 115 ∷ 99 ∷ 104 ∷ 101 ∷ 109 ∷ 97 ∷ []
word_of Value = 118 ∷ 97 ∷ 108 ∷ 117 ∷ 101 ∷ []
word_of Request = 114 ∷ 101 ∷ 113 ∷ 117 ∷ 101 ∷ 115 ∷ 116 ∷ []
