-- What is written of a body is its record.
use Rattle.std.proofs.Common.{◌≡◌, ℕ, Bool, true, false, cond, List, [], ◌∷◌, ◌++◌, length, None, Some, Option, ℤ, pos, negsuc, of_z, refl, ap, ◌∙◌, arith}
use Rattle.std.specs.Int.{w32}
use Rattle.std.specs.Borrow.{Bor}
use mathlib.Core.Option.{none, some}
use Rattle.text.specs.declared.decimal.Scale.{Scale}
use Rattle.model.specs.Values.{Name, Dec, p_boolean, p_whole, p_decimal, p_string, Rec, r_null, r_plain, r_list, r_object, r_nil, r_end}
use Rattle.model.specs.Records.{le32, framed, twos, truth, kind, encode, ExponentFits}
use Rattle.record.specs.declared.body.Body.{Body}
use Rattle.record.specs.declared.body.Body.TheVariants.{Null, Boolean, Whole, Decimal, String, List as a_list, Object}
use Rattle.record.specs.Records.{named, header, kind_of, opened}
use Rattle.coercion.specs.Levels.{lead_bytes}
use Rattle.coercion.specs.Bodies.{Writes, NameIs}

pub name_written : (s : Option (Bor (List ℕ))) (n : mathlib.Core.Option.Option Name) → NameIs s n → named s ≡ lead_bytes n
name_written None none h = refl
name_written None (some n) h = absurd h
name_written (Some s) none h = absurd h
name_written (Some s) (some n) h = ap (λ l. framed 8 l) h

pub record_written : (b : Body) (r : Rec) → Writes b r → header (length (opened b)) (kind_of b) ++ opened b ≡ encode r
record_written b r w = ap (λ k. framed k (opened b)) w.kind ∙ ap (λ l. framed (kind r) l) w.body

pub all_written : (s : Option (Bor (List ℕ))) (n : mathlib.Core.Option.Option Name) (b : Body) (r : Rec) → NameIs s n → Writes b r
    → named s ++ (header (length (opened b)) (kind_of b) ++ opened b) ≡ lead_bytes n ++ encode r
all_written s n b r h w = ap (λ l. l ++ (header (length (opened b)) (kind_of b) ++ opened b)) (name_written s n h) ∙ ap (λ l. lead_bytes n ++ l) (record_written b r w)

exponent_bytes : (e : ℤ) → ExponentFits e → of_z w32 e ≡ twos e
exponent_bytes (pos n) h = refl
exponent_bytes (negsuc n) h = omega arith

sign_byte : (b : Bool) → cond b 1 0 ≡ truth b
sign_byte true = refl
sign_byte false = refl

pub writes_null : Writes Null r_null
writes_null = record { kind = refl; body = refl }

pub writes_list : Writes a_list (r_list r_nil)
writes_list = record { kind = refl; body = refl }

pub writes_object : Writes Object (r_object r_end)
writes_object = record { kind = refl; body = refl }

pub writes_boolean : (b c : Bool) → b ≡ c → Writes (Boolean b) (r_plain (p_boolean c))
writes_boolean b c e = record { kind = refl; body = ap (λ x. cond x 1 0 ∷ []) e ∙ ap (λ x. x ∷ []) (sign_byte c) }

pub writes_whole : (s : Bor (List ℕ)) (t : List ℕ) → s.now ≡ t → Writes (Whole s) (r_plain (p_whole t))
writes_whole s t e = record { kind = refl; body = e }

pub writes_string : (s : Bor (List ℕ)) (t : List ℕ) → s.now ≡ t → Writes (String s) (r_plain (p_string t))
writes_string s t e = record { kind = refl; body = e }

pub writes_decimal : (z : Scale) (s : Bor (List ℕ)) (d : Dec) → z.negative ≡ d.negative → z.exponent ≡ d.exponent → s.now ≡ d.digits → ExponentFits d.exponent → Writes (Decimal z s) (r_plain (p_decimal d))
writes_decimal z s d n x t f = record {
  kind = refl;
  body = ap (λ b. cond b 1 0 ∷ (le32 (of_z w32 z.exponent) ++ s.now)) n
      ∙ ap (λ b. b ∷ (le32 (of_z w32 z.exponent) ++ s.now)) (sign_byte d.negative)
      ∙ ap (λ e. truth d.negative ∷ (le32 (of_z w32 e) ++ s.now)) x
      ∙ ap (λ e. truth d.negative ∷ (le32 e ++ s.now)) (exponent_bytes d.exponent f)
      ∙ ap (λ l. truth d.negative ∷ (le32 (twos d.exponent) ++ l)) t;
}
