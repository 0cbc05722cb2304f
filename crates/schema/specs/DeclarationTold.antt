-- What the functions promise that read what a name is declared as.
use Rattle.std.specs.Prelude.{◌≡◌}
use Rattle.source.specs.Table.{Table}
use Rattle.schema.specs.declared.declaration.Declaration.{Declaration}
use Rattle.schema.specs.Documents.{Label, Declared}
use Rattle.schema.specs.Holds.{typed_of, DefaultHeld}

-- the type is the one written, and the default stands among the nodes of the table
pub record DeclaredBy (l : Label) (T : Table) (d : Declaration) (x : Declared) : Type 0 where
  pub label : x.label ≡ l
  pub typed : typed_of d.ty ≡ x.typed
  pub default : DefaultHeld T d.default x.dflt
