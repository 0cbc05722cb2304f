-- What the kind of a value says of it, and how contents are opened by it.
use Rattle.std.proofs.Common.{◌≡◌, ℕ, Bool, List, None, Some, Option, refl, sym, subst}
use Rattle.std.specs.Borrow.{Bor}
use Rattle.text.specs.declared.decimal.Scale.{Scale}
use Rattle.model.specs.Values.{Name, Dec, boolean, whole, decimal, string, symbol, Raw, Raws, Mems, null, scalar, variable, list, object}
use Rattle.model.specs.Limits.{RawLimits}
use Rattle.source.specs.declared.raw.Kind.{Kind}
use Rattle.source.specs.declared.raw.Kind.TheVariants.{Null, Boolean, Whole, Decimal, String, Enum, Variable, List as ListKind, Object}
use Rattle.source.specs.declared.raw.Span.{Span}
use Rattle.source.specs.Heads.{kind_of, flag_of, text_of}
use Rattle.source.specs.Standing.{Scaled}
use Rattle.schema.specs.Documents.{Document}
use Rattle.record.specs.declared.body.Body.TheVariants.{Null as NullBody, Boolean as BooleanBody, Whole as WholeBody, Decimal as DecimalBody, String as StringBody, List as ListBody, Object as ObjectBody}
use Rattle.coercion.specs.declared.frames.Rest.TheVariants.{Items, Members}
use Rattle.coercion.specs.Levels.{opens_kept}
use Rattle.coercion.specs.States.{Opened}
use Rattle.coercion.specs.Openings.{AsksIs, contents_are, members_are, OpensAs}
use Rattle.coercion.proofs.Writing.{writes_null, writes_boolean, writes_whole, writes_decimal, writes_string, writes_list, writes_object}

pub data Seen : Kind → Raw → Type 0 where
  s_null : {p : ℕ} → Seen Null (null p)
  s_boolean : {p : ℕ} {b : Bool} → Seen Boolean (scalar p (boolean b))
  s_whole : {p : ℕ} {s : List ℕ} → Seen Whole (scalar p (whole s))
  s_decimal : {p : ℕ} {d : Dec} → Seen Decimal (scalar p (decimal d))
  s_string : {p : ℕ} {s : List ℕ} → Seen String (scalar p (string s))
  s_enum : {p : ℕ} {s : List ℕ} → Seen Enum (scalar p (symbol s))
  s_variable : {p : ℕ} {n : Name} → Seen Variable (variable p n)
  s_list : {p : ℕ} {xs : Raws} → Seen ListKind (list p xs)
  s_object : {p : ℕ} {ms : Mems} → Seen Object (object p ms)

seen : (t : Raw) → Seen (kind_of t) t
seen (null p) = s_null
seen (scalar p (boolean b)) = s_boolean
seen (scalar p (whole s)) = s_whole
seen (scalar p (decimal d)) = s_decimal
seen (scalar p (string s)) = s_string
seen (scalar p (symbol s)) = s_enum
seen (variable p n) = s_variable
seen (list p xs) = s_list
seen (object p ms) = s_object

pub seen_as : (k : Kind) (t : Raw) → k ≡ kind_of t → Seen k t
seen_as k t e = subst (λ q. Seen q t) (sym e) (seen t)

module _ (stands : ℕ → Raw → Type 0) (items_in : Span → Raws → Type 0) (members_in : Span → Mems → Type 0) (D : Document) (s : Option ℕ) (a : mathlib.Core.Option.Option Name) (asks : AsksIs D s a) where
  pub null_opens : {t : Raw} → Seen Null t → OpensAs stands items_in members_in D NullBody (record { rest = None; shape = None; scalar = s }) (opens_kept a t)
  null_opens s_null = record { body = writes_null; rest = refl; scalar = asks }

  pub variable_opens : {t : Raw} → Seen Variable t → Opened (opens_kept a t) → OpensAs stands items_in members_in D NullBody (record { rest = None; shape = None; scalar = s }) (opens_kept a t)
  variable_opens s_variable o = absurd o

  pub boolean_opens : {t : Raw} (b : Bool) → Seen Boolean t → b ≡ flag_of t → OpensAs stands items_in members_in D (BooleanBody b) (record { rest = None; shape = None; scalar = s }) (opens_kept a t)
  boolean_opens b s_boolean e = record { body = writes_boolean b _ e; rest = refl; scalar = asks }

  pub whole_opens : {t : Raw} (x : Bor (List ℕ)) → Seen Whole t → x.now ≡ text_of t → OpensAs stands items_in members_in D (WholeBody x) (record { rest = None; shape = None; scalar = s }) (opens_kept a t)
  whole_opens x s_whole e = record { body = writes_whole x _ e; rest = refl; scalar = asks }

  pub decimal_opens : {t : Raw} (z : Scale) (x : Bor (List ℕ)) → Seen Decimal t → RawLimits 0 t → Scaled t z → x.now ≡ text_of t → OpensAs stands items_in members_in D (DecimalBody z x) (record { rest = None; shape = None; scalar = s }) (opens_kept a t)
  decimal_opens z x s_decimal l q e = record { body = writes_decimal z x _ q.negative q.exponent e l.1.fits; rest = refl; scalar = asks }

  pub string_opens : {t : Raw} (x : Bor (List ℕ)) → Seen String t → x.now ≡ text_of t → OpensAs stands items_in members_in D (StringBody x) (record { rest = None; shape = None; scalar = s }) (opens_kept a t)
  string_opens x s_string e = record { body = writes_string x _ e; rest = refl; scalar = asks }

  pub enum_opens : {t : Raw} (x : Bor (List ℕ)) → Seen Enum t → x.now ≡ text_of t → OpensAs stands items_in members_in D (StringBody x) (record { rest = None; shape = None; scalar = s }) (opens_kept a t)
  enum_opens x s_enum e = record { body = writes_string x _ e; rest = refl; scalar = asks }

  pub list_opens : {t : Raw} (i : Span) → Seen ListKind t → ((p : ℕ) (xs : Raws) → t ≡ list p xs → items_in i xs) → OpensAs stands items_in members_in D ListBody (record { rest = Some (Items i); shape = None; scalar = s }) (opens_kept a t)
  list_opens i s_list h = record { body = writes_list; rest = contents_are (h _ _ refl); scalar = asks }

  pub object_opens : {t : Raw} (i : Span) → Seen Object t → ((p : ℕ) (ms : Mems) → t ≡ object p ms → members_in i ms) → OpensAs stands items_in members_in D ObjectBody (record { rest = Some (Members i); shape = None; scalar = s }) (opens_kept a t)
  object_opens i s_object h = record { body = writes_object; rest = members_are (h _ _ refl); scalar = asks }
