-- How a text is read.
use Rattle.std.specs.Prelude.{Bool}
use Rattle.text.specs.declared.language.Language.{Language}

-- in that language; where names are distinct, an object is refused in which a name stands twice
pub record Manner : Type 0 where
  pub language : Language
  pub distinct : Bool
