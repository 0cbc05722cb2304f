-- One tree at most stands at a cursor.
use Rattle.std.proofs.Common.{◌≡◌, ◌≢◌, ℕ, ◌+◌, ◌≤◌, List, sym, refl, ap, ◌∙◌, arith}
use Rattle.model.specs.Values.{Dec, Scalar, boolean, whole, decimal, string, symbol, Raw, Raws, Mems, null, scalar, variable, list, object, nil, cons, end, mem}
use Rattle.names.specs.Parts.{bytes_if_any}
use Rattle.source.specs.declared.raw.Kind.TheVariants.{Null, Variable, List as ListKind, Object}
use Rattle.source.specs.Heads.{scalar_kind, scalar_flag, scalar_text, scalar_negative, scalar_exponent, kind_of}
use Rattle.source.specs.Table.{Table, Head, Named, past_of, Stands, StandsAll, StandsMems, Held}
use Rattle.source.specs.Standing.{Lawful}

pub head_of : (T : Table) (at : ℕ) (t : Raw) → Stands T at t → Head T at t
head_of T at (null p) h = h.0
head_of T at (scalar p s) h = h.0
head_of T at (variable p n) h = h.0
head_of T at (list p xs) h = h.0
head_of T at (object p ms) h = h.0

-- what stands in a span ends no sooner than it begins
pub forward_all : (T : Table) (i j : ℕ) (xs : Raws) → StandsAll T i j xs → i ≤ j
forward_all T i j nil h = omega (arith, h)
forward_all T i j (cons x xs) h = omega (arith, (head_of T i x h.0).some, forward_all T (past_of T.nodes i) j xs h.1)

pub forward_mems : (T : Table) (i j : ℕ) (ms : Mems) → StandsMems T i j ms → i ≤ j
forward_mems T i j end h = omega (arith, h)
forward_mems T i j (mem n x ms) h = omega (arith, (head_of T i x h.1).some, forward_mems T (past_of T.nodes i) j ms h.2)

-- no scalar is of the kind of another value
pub scalar_apart : (s : Scalar) → (scalar_kind s ≢ Null) × (scalar_kind s ≢ Variable) × (scalar_kind s ≢ ListKind) × (scalar_kind s ≢ Object)
scalar_apart (boolean b) = ((λ e. cc), (λ e. cc), (λ e. cc), (λ e. cc))
scalar_apart (whole s) = ((λ e. cc), (λ e. cc), (λ e. cc), (λ e. cc))
scalar_apart (decimal d) = ((λ e. cc), (λ e. cc), (λ e. cc), (λ e. cc))
scalar_apart (string s) = ((λ e. cc), (λ e. cc), (λ e. cc), (λ e. cc))
scalar_apart (symbol s) = ((λ e. cc), (λ e. cc), (λ e. cc), (λ e. cc))

one_dec : (d e : Dec) → d.negative ≡ e.negative → d.exponent ≡ e.exponent → d.digits ≡ e.digits → d ≡ e
one_dec d e p q r = λ i. record { negative = p i; exponent = q i; digits = r i }

one_scalar : (s u : Scalar) → scalar_kind s ≡ scalar_kind u → scalar_flag s ≡ scalar_flag u → scalar_text s ≡ scalar_text u → scalar_negative s ≡ scalar_negative u → scalar_exponent s ≡ scalar_exponent u → s ≡ u
one_scalar (boolean a) (boolean b) k f t n x = ap boolean f
one_scalar (boolean a) (whole b) k f t n x = cc
one_scalar (boolean a) (decimal b) k f t n x = cc
one_scalar (boolean a) (string b) k f t n x = cc
one_scalar (boolean a) (symbol b) k f t n x = cc
one_scalar (whole a) (boolean b) k f t n x = cc
one_scalar (whole a) (whole b) k f t n x = ap whole t
one_scalar (whole a) (decimal b) k f t n x = cc
one_scalar (whole a) (string b) k f t n x = cc
one_scalar (whole a) (symbol b) k f t n x = cc
one_scalar (decimal a) (boolean b) k f t n x = cc
one_scalar (decimal a) (whole b) k f t n x = cc
one_scalar (decimal d) (decimal e) k f t n x = ap decimal (one_dec d e n x t)
one_scalar (decimal a) (string b) k f t n x = cc
one_scalar (decimal a) (symbol b) k f t n x = cc
one_scalar (string a) (boolean b) k f t n x = cc
one_scalar (string a) (whole b) k f t n x = cc
one_scalar (string a) (decimal b) k f t n x = cc
one_scalar (string a) (string b) k f t n x = ap string t
one_scalar (string a) (symbol b) k f t n x = cc
one_scalar (symbol a) (boolean b) k f t n x = cc
one_scalar (symbol a) (whole b) k f t n x = cc
one_scalar (symbol a) (decimal b) k f t n x = cc
one_scalar (symbol a) (string b) k f t n x = cc
one_scalar (symbol a) (symbol b) k f t n x = ap symbol t

module _ {T : Table} {at : ℕ} {t u : Raw} (g : Head T at t) (h : Head T at u) where
  one_kind : kind_of t ≡ kind_of u
  one_kind = sym g.says.kind ∙ h.says.kind

scalars_same : {T : Table} {at p q : ℕ} (s u : Scalar) → Head T at (scalar p s) → Head T at (scalar q u) → scalar p s ≡ scalar q u
scalars_same {p = p} {q} s u g h =
    let e = one_scalar s u (one_kind g h) (sym g.says.flag ∙ h.says.flag) (sym g.says.text ∙ h.says.text) (sym g.says.negative ∙ h.says.negative) (sym g.says.exponent ∙ h.says.exponent) in
    ap (λ k. scalar k s) (sym g.says.place ∙ h.says.place) ∙ ap (scalar q) e

one_name : {T : Table} {at : ℕ} {m n : List ℕ} → Named T at m → Named T at n → m ≡ n
one_name {T} g h = sym g.is ∙ ap (bytes_if_any T.text T.pool) (sym g.some ∙ h.some) ∙ h.is

mutual
  pub one_tree : (T : Table) (at : ℕ) (t u : Raw) → Stands T at t → Stands T at u → t ≡ u
  one_tree T at (null p) (null q) g h = ap null (sym g.0.says.place ∙ h.0.says.place)
  one_tree T at (null p) (scalar q u) g h = absurd ((scalar_apart u).0 (sym (one_kind g.0 h.0)))
  one_tree T at (null p) (variable q m) g h = cc (one_kind g.0 h.0)
  one_tree T at (null p) (list q ys) g h = cc (one_kind g.0 h.0)
  one_tree T at (null p) (object q ns) g h = cc (one_kind g.0 h.0)
  one_tree T at (scalar p s) (null q) g h = absurd ((scalar_apart s).0 (one_kind g.0 h.0))
  one_tree T at (scalar p s) (scalar q u) g h = scalars_same s u g.0 h.0
  one_tree T at (scalar p s) (variable q m) g h = absurd ((scalar_apart s).1 (one_kind g.0 h.0))
  one_tree T at (scalar p s) (list q ys) g h = absurd ((scalar_apart s).2 (one_kind g.0 h.0))
  one_tree T at (scalar p s) (object q ns) g h = absurd ((scalar_apart s).3 (one_kind g.0 h.0))
  one_tree T at (variable p n) (null q) g h = cc (one_kind g.0 h.0)
  one_tree T at (variable p n) (scalar q u) g h = absurd ((scalar_apart u).1 (sym (one_kind g.0 h.0)))
  one_tree T at (variable p n) (variable q m) g h = ap (λ k. variable k n) (sym g.0.says.place ∙ h.0.says.place) ∙ ap (variable q) (sym g.0.says.text ∙ h.0.says.text)
  one_tree T at (variable p n) (list q ys) g h = cc (one_kind g.0 h.0)
  one_tree T at (variable p n) (object q ns) g h = cc (one_kind g.0 h.0)
  one_tree T at (list p xs) (null q) g h = cc (one_kind g.0 h.0)
  one_tree T at (list p xs) (scalar q u) g h = absurd ((scalar_apart u).2 (sym (one_kind g.0 h.0)))
  one_tree T at (list p xs) (variable q m) g h = cc (one_kind g.0 h.0)
  one_tree T at (list p xs) (list q ys) g h = ap (λ k. list k xs) (sym g.0.says.place ∙ h.0.says.place) ∙ ap (list q) (one_all T (at + 1) _ xs ys g.1 h.1)
  one_tree T at (list p xs) (object q ns) g h = cc (one_kind g.0 h.0)
  one_tree T at (object p ms) (null q) g h = cc (one_kind g.0 h.0)
  one_tree T at (object p ms) (scalar q u) g h = absurd ((scalar_apart u).3 (sym (one_kind g.0 h.0)))
  one_tree T at (object p ms) (variable q m) g h = cc (one_kind g.0 h.0)
  one_tree T at (object p ms) (list q ys) g h = cc (one_kind g.0 h.0)
  one_tree T at (object p ms) (object q ns) g h = ap (λ k. object k ms) (sym g.0.says.place ∙ h.0.says.place) ∙ ap (object q) (one_mems T (at + 1) _ ms ns g.1 h.1)

  one_all : (T : Table) (i j : ℕ) (xs ys : Raws) → StandsAll T i j xs → StandsAll T i j ys → xs ≡ ys
  one_all T i j nil nil g h = refl
  one_all T i j nil (cons y ys) g h = absurd (omega (arith, g, (head_of T i y h.0).some, forward_all T _ j ys h.1))
  one_all T i j (cons x xs) nil g h = absurd (omega (arith, h, (head_of T i x g.0).some, forward_all T _ j xs g.1))
  one_all T i j (cons x xs) (cons y ys) g h = ap (λ z. cons z xs) (one_tree T i x y g.0 h.0) ∙ ap (cons y) (one_all T _ j xs ys g.1 h.1)

  one_mems : (T : Table) (i j : ℕ) (ms ns : Mems) → StandsMems T i j ms → StandsMems T i j ns → ms ≡ ns
  one_mems T i j end end g h = refl
  one_mems T i j end (mem n y ns) g h = absurd (omega (arith, g, (head_of T i y h.1).some, forward_mems T _ j ns h.2))
  one_mems T i j (mem m x ms) end g h = absurd (omega (arith, h, (head_of T i x g.1).some, forward_mems T _ j ms g.2))
  one_mems T i j (mem m x ms) (mem n y ns) g h =
      ap (λ z. mem z x ms) (one_name g.0 h.0) ∙ ap (λ z. mem n z ms) (one_tree T i x y g.1 h.1) ∙ ap (mem n y) (one_mems T _ j ms ns g.2 h.2)

-- what a source over a table owes
pub lawful : {S : Type 0} (table : S → Table) → Lawful (λ (s : S). Held (table s))
lawful table = record {
  one = λ s at t u g h. one_tree (table s) at t u g.stands h.stands;
  within = λ s at t h. h.within;
}
