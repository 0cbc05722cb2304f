-- The program's locations are those of the standard.
use Rattle.std.proofs.Common.{◌≡◌, ℕ, ◌<◌, Bool, true, false, cond, List, [], ◌∷◌, ◌++◌, length, map, get_or, replicate, slice_set, Some, None, Option, sym, refl, ap, ◌∙◌, subst, ⊎_elim, ◌==◌, arith}
use mathlib.Core.Option.{none, some}
use Rattle.std.proofs.lemmas.Bool.{cases_Bool, cond-true, cond-false}
use Rattle.std.proofs.lemmas.Bool.Decides.{nat_tests}
use Rattle.std.proofs.lemmas.Grind.{get_or-set_at}
use Rattle.std.proofs.lemmas.List.{get_or-set_other, get_or-replicate}
use Rattle.std.specs.Option.{option_map}
use Rattle.std.specs.List.{find}
use Rattle.std.specs.Str.{bytes_eq}
use Rattle.model.specs.Values as M
use Rattle.schema.specs.declared.location.Location.{Location}
use Rattle.schema.specs.declared.location.Location.TheVariants.{Query, Mutation, Subscription, Field, FragmentDefinition, FragmentSpread, InlineFragment, VariableDefinition, Schema, Scalar, Object, FieldDefinition, ArgumentDefinition, Interface, Union, Enum, EnumValue, InputObject, InputFieldDefinition}
use Rattle.schema.specs.declared.location.Locations.{Locations}
use Rattle.schema.specs.Locations.{in_table, location_in, location_number}
use Rattle.schema.specs.LocationTold.{location_of, row_of, NamedTold}
use Rattle.schema.specs.Holds.{LocationsHeld}

-- one location more is the last of them or among the others
in_more : (ls : List M.Location) (l : M.Location) (i : ℕ) → location_in (ls ++ l ∷ []) i ≡ cond (location_number l == i) true (location_in ls i)
in_more [] l i = refl
in_more (k ∷ ls) l i = grind (arith, in_more ls l i)

equal : (i j : ℕ) → (i == j) ≡ true → j ≡ i
equal i j h = grind (arith, nat_tests)

unequal : (i j : ℕ) → (i == j) ≡ false → j ≡ i → ⊥
unequal i j h e = grind (arith, nat_tests)

pub with_one : (s : Locations) (l : M.Location) (k : ℕ) (ls : List M.Location) → k ≡ location_number l → k < length s.flags → LocationsHeld s ls → LocationsHeld (record { flags = slice_set s.flags k true }) (ls ++ l ∷ [])
with_one s l k ls e n h = record {
  flags = λ i w. ⊎_elim
      (λ q. get_or-set_at s.flags k i true false (equal k i (ap (λ m. m == i) e ∙ q)) n ∙ sym (in_more ls l i ∙ cond-true (location_number l == i) true (location_in ls i) q))
      (λ q. get_or-set_other s.flags k i true false (unequal k i (ap (λ m. m == i) e ∙ q)) ∙ h.flags i w ∙ sym (in_more ls l i ∙ cond-false (location_number l == i) true (location_in ls i) q))
      (cases_Bool (location_number l == i));
}

same_bytes : (xs ys : List ℕ) → M.same xs ys ≡ bytes_eq xs ys
same_bytes [] [] = refl
same_bytes [] (y ∷ ys) = refl
same_bytes (x ∷ xs) [] = refl
same_bytes (x ∷ xs) (y ∷ ys) = grind (arith, same_bytes xs ys)

abbrev pub row_is : M.Name → denote.Ref.Bor (List ℕ) × Location → Bool
row_is w r = bytes_eq r.0.now w

pub among : (rs : List (denote.Ref.Bor (List ℕ) × Location)) (w : M.Name) (o : Option Location) → o ≡ option_map (λ r. r.1) (find (row_is w) rs) → NamedTold (in_table (map row_of rs) w) o
among [] w o h = subst (NamedTold none) (sym h) tt
among (r ∷ rs) w o h =
    let e : M.same r.0.now w ≡ row_is w r = same_bytes r.0.now w in
    ⊎_elim
    (λ q. subst (λ b. NamedTold (cond b (some (location_of r.1)) (in_table (map row_of rs) w)) o) (sym (e ∙ q))
    (subst (NamedTold (some (location_of r.1))) (sym (h ∙ ap (λ b. option_map (λ r. r.1) (cond b (Some r) (find (row_is w) rs))) q)) refl))
    (λ q. subst (λ b. NamedTold (cond b (some (location_of r.1)) (in_table (map row_of rs) w)) o) (sym (e ∙ q))
    (among rs w o (h ∙ ap (λ b. option_map (λ r. r.1) (cond b (Some r) (find (row_is w) rs))) q)))
    (cases_Bool (row_is w r))

pub number_small : (l : Location) → location_number (location_of l) < 19
number_small Query = omega arith
number_small Mutation = omega arith
number_small Subscription = omega arith
number_small Field = omega arith
number_small FragmentDefinition = omega arith
number_small FragmentSpread = omega arith
number_small InlineFragment = omega arith
number_small VariableDefinition = omega arith
number_small Schema = omega arith
number_small Scalar = omega arith
number_small Object = omega arith
number_small FieldDefinition = omega arith
number_small ArgumentDefinition = omega arith
number_small Interface = omega arith
number_small Union = omega arith
number_small Enum = omega arith
number_small EnumValue = omega arith
number_small InputObject = omega arith
number_small InputFieldDefinition = omega arith

pub no_flags : (i : ℕ) → i < 19 → get_or (replicate 19 false) i false ≡ location_in [] i
no_flags i h = get_or-replicate 19 i false false h

pub named_some : (q : mathlib.Core.Option.Option M.Location) (o : Option Location) (l : Location) → o ≡ Some l → NamedTold q o → q ≡ some (location_of l)
named_some none o l e h = absurd (subst (NamedTold none) e h)
named_some (some k) o l e h = ap some (sym (subst (NamedTold (some k)) e h))

pub named_none : (q : mathlib.Core.Option.Option M.Location) (o : Option Location) → o ≡ None → NamedTold q o → q ≡ none
named_none none o e h = refl
named_none (some k) o e h = absurd (subst (NamedTold (some k)) e h)
