use Rattle.std.proofs.Common.{◌∙◌, map, not, sym, ap, subst}
use Rattle.std.specs.Bool.{then_some}
use Rattle.model.specs.Values.{custom_d, symbol, find, has}
use Rattle.schema.specs.Documents.{schema_of}
use Rattle.schema.specs.declared.tokens.Name.{Name}
use Rattle.schema.specs.Spans.{rows_in, inside_at}
use Rattle.validation.specs.declared.diagnostic.DiagnosticKind.TheVariants.{UndefinedEnumValue}
use Rattle.validation.proofs.Defined.{DefIs, def_is}
use Rattle.validation.proofs.Errors.{means, told_of, told_unless, symbol_unsupported}
use Rattle.validation.proofs.literal.LiteralCheck.enum_error.Goals as goal

pub returns-in-Enum : goal.returns-in-Enum
returns-in-Enum g c D n h e =
    let s = c.args.self.now.schema.now in
    let f = subst (λ b. DefIs s D b (find (schema_of D) n)) (sym e ∙ c.in-Enum.is) (def_is s D h n) in
    told_of (find (schema_of D) n) _ (symbol c.args.text.now) c.then_some.result f
    (let q = c.then_some.ensures ∙ ap (λ b. then_some (not b) UndefinedEnumValue) c.has_value.ensures in
    rw q (told_unless (has (map (λ (v : Name). v.name.now) (rows_in s.values.items (inside_at s.types.items c.in-Enum.index))) c.args.text.now)))

pub returns-in-Custom : goal.returns-in-Custom
returns-in-Custom g c D n h e =
    let s = c.args.self.now.schema.now in
    let f = subst (λ b. DefIs s D b (find (schema_of D) n)) (sym e ∙ c.in-Custom.is) (def_is s D h n) in
    told_of (find (schema_of D) n) custom_d (symbol c.args.text.now) _ f tt

pub returns-in_default : goal.returns-in_default
returns-in_default g c D n h e =
    let s = c.args.self.now.schema.now in
    symbol_unsupported c.args.base _ c.args.text.now (means s D c.args.base _ (subst (λ b. DefIs s D b (find (schema_of D) n)) (sym e) (def_is s D h n))) c.in_default.not-Enum c.in_default.not-Custom
