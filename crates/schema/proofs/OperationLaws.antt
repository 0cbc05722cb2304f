-- Reading what a name is declared as, and an operation, has one outcome.
use Rattle.std.proofs.Common.{◌≡◌, ℕ, true, false, List, [], refl, arith}
use Rattle.std.proofs.Math.Option.{some, none}
use Rattle.text.specs.NumberGrammar.{Number}
use Rattle.text.specs.declared.language.Language.TheVariants.{Graphql}
use Rattle.text.specs.declared.number.NumberKind.{NumberKind}
use Rattle.text.specs.TokenGrammar.{dollar, open_paren, close_paren, colon, equals, at_sign, a_number}
use Rattle.reader.specs.Tokens.{Sight, sees, Sights}
use Rattle.reader.specs.Reading.{Out, is_mark}
use Rattle.reader.proofs.RdSights.{one_sight, sights_number}
use Rattle.reader.proofs.RdSame.{same as same_value}
use Rattle.schema.specs.Declarations.{ReadsLiteral, ReadsDefault, ReadsDeclared}
use Rattle.schema.specs.Documents.{Label, OperationDocument}
use Rattle.schema.specs.OperationReading.{a_kind, is_name, ReadsName, ReadsAfterDollar, ReadsVariable, ReadsVariables, unchanged, argument_of, ReadsArgumentValue, ReadsArgument, ReadsArgumentList, ReadsUseArguments, ReadsAfterAt, ReadsUse, ReadsUses, ReadsOperationFrom, ReadsOperation, operation_long, operation_read}
use Rattle.schema.specs.Outcomes.{Then, Gives, Maps, Takes, the_mark, any_name, Room, Items}
use Rattle.schema.specs.ReadingLaws.{OneOutcome, Shapes}
use Rattle.schema.specs.SchemaGrammar.{ends}
use Rattle.schema.specs.SchemaReading.{next, ReadsNew}
use Rattle.schema.specs.Types.{ReadsType}
use Rattle.schema.proofs.Readings.{One, once_gives, once_maps, once_room, once_takes, once_then, once_if, once_items}
use Rattle.schema.proofs.TypeLaws.{once_type, item_law, list_law, null_law}

module _ (N : ℕ → Sight → Type 0) (one : (i : ℕ) (v w : Sight) → N i v → N i w → v ≡ w)
    (num : (i s e : ℕ) (k : NumberKind) (ds : List ℕ) → N i (sees s e (a_number k ds)) → Number ds k) where
  pub once_literal : One (ReadsLiteral N)
  once_literal i o p h g = same_value N one num Graphql false h g

  once_default : One (ReadsDefault N)
  once_default = once_if N one (is_mark equals) (λ s. Maps some (ReadsLiteral N)) (Gives none) (λ s. once_maps some (ReadsLiteral N) once_literal) (once_gives none)

  pub once_declared : (l : Label) → One (ReadsDeclared N l)
  once_declared l =
      once_then (Takes N (the_mark colon)) (λ s. Then (ReadsType N 8) (λ t. Maps (λ v. record { label = l; typed = t; dflt = v }) (ReadsDefault N))) (once_takes N one (the_mark colon))
      (λ s. once_then (ReadsType N 8) (λ t. Maps (λ v. record { label = l; typed = t; dflt = v }) (ReadsDefault N)) (once_type N one 8) (λ t. once_maps (λ v. record { label = l; typed = t; dflt = v }) (ReadsDefault N) once_default))

  once_new : (n : ℕ) → One (ReadsNew N 64 n any_name)
  once_new n = once_then (Takes N any_name) (λ l. Then (Room n 64 l.place) (λ u. Gives l)) (once_takes N one any_name) (λ l. once_then (Room n 64 l.place) (λ u. Gives l) (once_room n 64 l.place) (λ u. once_gives l))

  pub once_variable : (n : ℕ) → One (ReadsVariable N n)
  once_variable n = once_then (Takes N (the_mark dollar)) (ReadsAfterDollar N n) (once_takes N one (the_mark dollar))
      (λ s. once_then (ReadsNew N 64 n any_name) (λ l. Maps (λ d. record { place = s; declared = d }) (ReadsDeclared N l)) (once_new n) (λ l. once_maps (λ d. record { place = s; declared = d }) (ReadsDeclared N l) (once_declared l)))

  once_variables : One (ReadsVariables N)
  once_variables = once_if N one (is_mark open_paren) (λ s. Items N (is_mark close_paren) next (ReadsVariable N) false 0) (Gives []) (λ s. once_items N one (is_mark close_paren) next (ReadsVariable N) once_variable false 0) (once_gives [])

  pub once_argument : One (ReadsArgument N)
  once_argument = once_then (Takes N any_name) (ReadsArgumentValue N) (once_takes N one any_name)
      (λ l. once_then (Takes N (the_mark colon)) (λ s. Maps (argument_of l) (ReadsLiteral N)) (once_takes N one (the_mark colon)) (λ s. once_maps (argument_of l) (ReadsLiteral N) once_literal))

  once_arguments : One (ReadsUseArguments N)
  once_arguments = once_if N one (is_mark open_paren) (λ s. ReadsArgumentList N) (Gives []) (λ s. once_items N one (is_mark close_paren) unchanged (λ u. ReadsArgument N) (λ u. once_argument) false tt) (once_gives [])

  pub once_use : One (ReadsUse N)
  once_use = once_then (Takes N (the_mark at_sign)) (ReadsAfterAt N) (once_takes N one (the_mark at_sign))
      (λ s. once_then (Takes N any_name) (λ l. Maps (λ xs. record { name = l.name; place = s; arguments = xs }) (ReadsUseArguments N)) (once_takes N one any_name) (λ l. once_maps (λ xs. record { name = l.name; place = s; arguments = xs }) (ReadsUseArguments N) once_arguments))

  once_uses : One (ReadsUses N)
  once_uses = once_items N one ends unchanged (λ u. ReadsUse N) (λ u. once_use) true tt

  once_name : One (ReadsName N)
  once_name = once_if N one is_name (λ s. Gives tt) (Gives tt) (λ s. once_gives tt) (once_gives tt)

  once_operation : One (ReadsOperationFrom N)
  once_operation =
      once_then (Takes N a_kind) (λ k. Then (ReadsName N) (λ u. Then (ReadsVariables N) (λ vs. Maps (λ us. record { kind = k; variables = vs; uses = us }) (ReadsUses N)))) (once_takes N one a_kind)
      (λ k. once_then (ReadsName N) (λ u. Then (ReadsVariables N) (λ vs. Maps (λ us. record { kind = k; variables = vs; uses = us }) (ReadsUses N))) once_name
      (λ u. once_then (ReadsVariables N) (λ vs. Maps (λ us. record { kind = k; variables = vs; uses = us }) (ReadsUses N)) once_variables
      (λ vs. once_maps (λ us. record { kind = k; variables = vs; uses = us }) (ReadsUses N) once_uses)))

operation_once : (text : List ℕ) (o p : Out OperationDocument) → ReadsOperation text o → ReadsOperation text p → o ≡ p
operation_once text o p (operation_long l) (operation_long m) = refl
operation_once text o p (operation_long l) (operation_read m r) = absurd (omega arith)
operation_once text o p (operation_read l r) (operation_long m) = absurd (omega arith)
operation_once text o p (operation_read l r) (operation_read m q) = once_operation (Sights Graphql text) (one_sight Graphql text) (sights_number Graphql text) 0 o p r q

pub one_outcome : OneOutcome
one_outcome = record {
  type = λ d text. once_type (Sights Graphql text) (one_sight Graphql text) d;
  declared = λ l text. once_declared (Sights Graphql text) (one_sight Graphql text) (sights_number Graphql text) l;
  operation = operation_once;
}

pub shapes : Shapes
shapes = record { list = list_law; null = null_law; item = item_law }
