-- Each variable's extent cuts its name and record out of the sheet's bytes.
use Rattle.std.proofs.Common.{◌≡◌, ℕ, ◌+◌, List, [], ◌∷◌, ◌++◌, length, take, drop, sym, refl, ap, ◌∙◌, subst, append_assoc, arith, length-append}
use mathlib.Core.Option.{Option, none, some}
use Rattle.model.specs.Values.{Name, Variable, Rec, Rmems}
use Rattle.model.specs.Records.{framed, encode, encode_mems}
use Rattle.model.specs.Coercion.{Slots, put, sheet_of}
use Rattle.model.specs.Walk.{slot_size}
use Rattle.model.specs.Calls.{bytes_of, slot_bytes, extents_from}
use Rattle.model.specs.Laws.{Cut, ExtentsCut}
use Rattle.model.proofs.ByteLaws.{size-is_length}

-- a sheet's bytes are its slots' bytes, one after another
slots_join : (n : Name) (o : Option Rec) (ms : Rmems) → encode_mems (put n o ms) ≡ slot_bytes n o ++ encode_mems ms
slots_join n none ms = refl
slots_join n (some r) ms = sym (append_assoc (framed 8 n) (encode r) (encode_mems ms))

slot_length : (n : Name) (o : Option Rec) → length (slot_bytes n o) ≡ slot_size n o
slot_length n none = refl
slot_length n (some r) = omega (arith, length-append (framed 8 n) (encode r), size-is_length.0 r)

cut_drop : (a x : List ℕ) → drop (length a) (a ++ x) ≡ x
cut_drop [] x = refl
cut_drop (y ∷ a) x = cut_drop a x

cut_take : (b c : List ℕ) → take (length b) (b ++ c) ≡ b
cut_take [] c = refl
cut_take (y ∷ b) c = ap (λ l. y ∷ l) (cut_take b c)

cut_front : (a b c : List ℕ) (k l : ℕ) → length a ≡ k → length b ≡ l → take l (drop k (a ++ (b ++ c))) ≡ b
cut_front a b c k l e f =
    ap (λ m. take l (drop m (a ++ (b ++ c)))) (sym e)
    ∙ ap (λ x. take l x) (cut_drop a (b ++ c))
    ∙ ap (λ m. take m (b ++ c)) (sym f)
    ∙ cut_take b c

cuts : (front : List ℕ) (at : ℕ) → length front ≡ at → (vs : List Variable) (os : Slots) (bytes : List ℕ) → front ++ bytes_of vs os ≡ bytes → Cut bytes vs os (extents_from at vs os)
cuts front at e [] os bytes b = refl
cuts front at e (v ∷ vs) [] bytes b = refl
cuts front at e (v ∷ vs) (o ∷ os) bytes b =
    let n = v.field.name in
    let whole : front ++ (slot_bytes n o ++ bytes_of vs os) ≡ bytes = ap (λ l. front ++ l) (sym (slots_join n o (sheet_of vs os))) ∙ b in (
      subst (λ bs. take (slot_size n o) (drop at bs) ≡ slot_bytes n o) whole (cut_front front (slot_bytes n o) (bytes_of vs os) at (slot_size n o) e (slot_length n o)),
      cuts (front ++ slot_bytes n o) (at + slot_size n o) (length-append front (slot_bytes n o) ∙ ap (λ k. k + length (slot_bytes n o)) e ∙ ap (λ k. at + k) (slot_length n o)) vs os bytes (append_assoc front (slot_bytes n o) (bytes_of vs os) ∙ whole),
    )

pub extents_cut : ExtentsCut
extents_cut vs os = cuts [] 0 refl vs os (bytes_of vs os) refl
