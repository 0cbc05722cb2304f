-- The names of members.
use Rattle.std.proofs.Common.{◌≡◌, ℕ, ◌-◌, ◌≤◌, Bool, true, false, List, [], ◌∷◌, ◌++◌, length, take, Ok, sym, ap, ◌∙◌, subst, arith}
use Rattle.std.proofs.lemmas.Bool.{cond-true, cond-false}
use Rattle.model.specs.Values.{Name}
use Rattle.text.specs.declared.fault.Fault.TheVariants.{BadText}
use Rattle.text.specs.TokenGrammar.{Lexical, a_mark, colon}
use Rattle.text.proofs.LexBase.{length_part}
use Rattle.names.specs.declared.names.Link.{Link}
use Rattle.names.specs.declared.part.Part.{Part}
use Rattle.names.specs.Parts.{lies_in, start_of, end_of}
use Rattle.names.proofs.Growth.{sound_pool, names_pool, sound_none}
use Rattle.names.specs.Index.{names_from}
use Rattle.reader.specs.Tokens.{sees}
use Rattle.reader.specs.Reading.{got, fails, is_mark, colon_after, repeats}
use Rattle.reader.specs.Told.{PartFor, NamesHeld, NewTold}
use Rattle.std.proofs.lemmas.List.{drop_all}

pub part_length : {text before after n : List ℕ} {p : Part} → PartFor text before after n p → length n ≡ end_of p - start_of p
part_length {text} {before} {after} {n} {p} h = sym (ap length h.is) ∙ length_part (lies_in text after p) (start_of p) (end_of p) h.fits.1

-- the names held, with a longer pool
pub held_pool : (distinct : Bool) (text pool pool' : List ℕ) (links : List Link) (base : ℕ) (ns : List Name) (more : List ℕ) → pool' ≡ pool ++ more → NamesHeld distinct text pool links base ns → NamesHeld distinct text pool' links base ns
held_pool true text pool pool' links base ns more e h = subst (λ q. NamesHeld true text q links base ns) (sym e) (sound_pool text pool more links base h.0, names_pool text pool more links base h.0 ∙ h.1)
held_pool false text pool pool' links base ns more e h = tt

-- no names at first
pub held_none : (distinct : Bool) (text pool : List ℕ) (links : List Link) (base : ℕ) → base ≡ length links → NamesHeld distinct text pool links base []
held_none true text pool links base e = (sound_none text pool links base e, ap (Rattle.names.specs.Index.names_of text pool) (drop_all base links (omega (arith, e))))
held_none false text pool links base e = tt

module _ (distinct : Bool) (text pool pool' q : List ℕ) (base : ℕ) (before after : List Link) (p : Part) (n : Name) (ns : List Name) (e : q ≡ pool') (f : PartFor text pool pool' n p) (h : NamesHeld distinct text pool before base ns) where
  before_held : NamesHeld distinct text pool' before base ns
  before_held = held_pool distinct text pool pool' before base ns f.more f.grown h

  pub name_fresh : (b : Bool) → b ≡ true → base ≤ length before → NewTold distinct text q base before after p (Ok b) → (repeats distinct ns n ≡ false) × NamesHeld distinct text pool' after base (ns ++ n ∷ []) × (take base after ≡ take base before) × (base ≤ length after)
  name_fresh b t l w =
      let g = subst (λ x. NewTold distinct text x base before after p (Ok true)) e (subst (λ x. NewTold distinct text q base before after p (Ok x)) t w) in
      let r = g ns l f.fits before_held in
      (subst (λ x. repeats distinct ns x ≡ false) f.is r.0, subst (λ x. NamesHeld distinct text pool' after base (ns ++ x ∷ [])) f.is r.1, r.2, r.3)

  pub name_known : (b : Bool) → b ≡ false → NewTold distinct text q base before after p (Ok b) → repeats distinct ns n ≡ true
  name_known b t w =
      let g = subst (λ x. NewTold distinct text x base before after p (Ok false)) e (subst (λ x. NewTold distinct text q base before after p (Ok x)) t w) in
      subst (λ x. repeats distinct ns x ≡ true) f.is (g ns f.fits before_held)

pub colon_there : (n : Name) (b e : ℕ) (x : Lexical) → x ≡ a_mark colon → colon_after n (sees b e x) ≡ got e n
colon_there n b e x h = cond-true (is_mark colon x) _ _ (ap (is_mark colon) h)

pub colon_lacks : (n : Name) (b e : ℕ) (x : Lexical) → is_mark colon x ≡ false → colon_after n (sees b e x) ≡ fails (BadText b)
colon_lacks n b e x h = cond-false (is_mark colon x) _ _ h
