-- What bodies write.
use Rattle.std.specs.Prelude.{◌≡◌, ℕ, List, None, Some, Option}
use Rattle.std.specs.Borrow.{Bor}
use mathlib.Core.Option.{none, some}
use Rattle.model.specs.Values.{Name, Rec}
use Rattle.model.specs.Records.{kind, body}
use Rattle.record.specs.declared.body.Body.{Body}
use Rattle.record.specs.Records.{kind_of, opened}

-- the body is the record's
pub record Writes (b : Body) (r : Rec) : Type 0 where
  pub kind : kind_of b ≡ kind r
  pub body : opened b ≡ body r

-- the name is that, or there is none
abbrev pub NameIs : Option (Bor (List ℕ)) → mathlib.Core.Option.Option Name → Type 0
NameIs None none = Unit {0}
NameIs None (some n) = ⊥
NameIs (Some s) none = ⊥
NameIs (Some s) (some n) = s.now ≡ n
