-- Names from a pool that grows.
use Rattle.std.proofs.Common.{◌≡◌, ℕ, zero, suc, ◌-◌, ◌<◌, ◌≤◌, List, [], ◌∷◌, ◌++◌, length, get_or, take, drop, sym, refl, ap, ◌∙◌, subst, arith, length-append, length-drop}
use Rattle.std.proofs.lemmas.List.{drop-append-le, take-append-le}
use Rattle.names.specs.declared.part.Part.{Part}
use Rattle.names.specs.declared.part.Part.TheVariants.{Text, Pool}
use Rattle.names.specs.declared.names.Link.{Link}
use Rattle.names.specs.Parts.{PartFits, bytes_of}
use Rattle.names.specs.Bits.{name_hash}
use Rattle.names.specs.Index.{blank, name_at, names_of, names_from, Leads, Sound}

-- an object without members
pub sound_none : (text pool : List ℕ) (links : List Link) (base : ℕ) → base ≡ length links → Sound text pool links base
sound_none text pool links base e =
    record {
      leads = λ k a h. absurd (omega arith);
      fits = λ k a h. absurd (omega arith);
      hashed = λ k a h. absurd (omega arith);
    }

pub fits_pool : (text pool more : List ℕ) (p : Part) → PartFits text pool p → PartFits text (pool ++ more) p
fits_pool text pool more (Text i j) f = f
fits_pool text pool more (Pool i j) f = (f.0, omega (arith, f.1, length-append pool more))

pub bytes_pool : (text pool more : List ℕ) (p : Part) → PartFits text pool p → bytes_of text (pool ++ more) p ≡ bytes_of text pool p
bytes_pool text pool more (Text i j) f = refl
bytes_pool text pool more (Pool i j) f =
    ap (take (j - i)) (drop-append-le i pool more (omega (arith, f.0, f.1)))
    ∙ take-append-le (j - i) (drop i pool) more (omega (arith, length-drop i pool, f.0, f.1))

pub sound_pool : (text pool more : List ℕ) (links : List Link) (base : ℕ) → Sound text pool links base → Sound text (pool ++ more) links base
sound_pool text pool more links base s =
    let kept : (k : ℕ) → base ≤ k → k < length links → name_at text pool links k ≡ name_at text (pool ++ more) links k = λ k a h. sym (bytes_pool text pool more (get_or links k blank).name (s.fits k a h)) in
    record {
      leads = λ k a h. subst (λ (n : List ℕ). Leads links (name_hash n) n base 0 k) (kept k a h) (s.leads k a h);
      fits = λ k a h. fits_pool text pool more (get_or links k blank).name (s.fits k a h);
      hashed = λ k a h. s.hashed k a h ∙ ap name_hash (kept k a h);
    }

names_kept : (text pool more : List ℕ) (links : List Link) (base : ℕ) → ((k : ℕ) → base ≤ k → k < length links → PartFits text pool (get_or links k blank).name) → names_from text (pool ++ more) links base ≡ names_from text pool links base
names_kept text pool more [] zero f = refl
names_kept text pool more [] (suc b) f = refl
names_kept text pool more (x ∷ xs) zero f =
    ap (λ n. n ∷ names_of text (pool ++ more) xs) (bytes_pool text pool more x.name (f 0 (omega arith) (omega arith)))
    ∙ ap (λ ns. bytes_of text pool x.name ∷ ns) (names_kept text pool more xs zero (λ k a h. f (suc k) (omega arith) (omega arith)))
names_kept text pool more (x ∷ xs) (suc b) f = names_kept text pool more xs b (λ k a h. f (suc k) (omega arith) (omega arith))

pub names_pool : (text pool more : List ℕ) (links : List Link) (base : ℕ) → Sound text pool links base → names_from text (pool ++ more) links base ≡ names_from text pool links base
names_pool text pool more links base s = names_kept text pool more links base s.fits
