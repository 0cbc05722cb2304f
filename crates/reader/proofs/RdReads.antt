-- What the grammar has within the limits is what reading comes to, so a text writes one value at most.
use Rattle.std.proofs.Common.{◌≡◌, ℕ, suc, ◌+◌, ◌-◌, Bool, true, false, List, sym, refl, subst, arith, length-drop}
use Rattle.model.specs.Values.{Name, Raw, Raws, Mems}
use Rattle.model.specs.Limits.{mem_names}
use Rattle.text.specs.declared.language.Language.{Language}
use Rattle.text.specs.declared.language.Language.TheVariants.{Json, Graphql}
use Rattle.text.specs.declared.number.NumberKind.{NumberKind}
use Rattle.text.specs.NumberGrammar.{Number}
use Rattle.text.specs.TokenGrammar.{Mark, dollar, colon, open_bracket, close_bracket, open_brace, close_brace, comma, Lexical, a_mark, a_name, a_number}
use Rattle.text.specs.TokenFound.{Skipped}
use Rattle.text.proofs.LexOnce.{skips_less, skips_once, token_once}
use Rattle.reader.specs.Tokens.{Sight, sees, TokenIs, Seen, Sights}
use Rattle.reader.specs.Grammar.{Separated, Value, g_leaf, g_variable, g_list, g_object, Values, g_nil, g_values, SomeValues, g_last, g_more, Members, g_end, g_members, SomeMembers, g_last_member, g_more_members, g_member, Text}
use Rattle.reader.specs.Reading.{got, is_mark, turn, again, na_name, Reads, r_leaf, r_variable, r_list, r_object, ReadsList, rl_nil, rl_items, ReadsItems, ri_last, ri_more, ReadsObject, ro_end, ro_members, ReadsMembers, rm_last, rm_more, ReadsAll, all_read, Unrepeated, Bounded, BoundedAll, BoundedMems}
use Rattle.reader.specs.Document.{Writes}
use Rattle.reader.proofs.RdSights.{sure, sights_number}
use Rattle.reader.proofs.RdSound.{Fresh, unrepeated_fresh}
use Rattle.reader.proofs.RdAgree.{deep_enough, Opens, items_open, members_open, turn_closes, turn_goes, agree_all}
use Rattle.reader.proofs.RdLimits.{bounded_of}

-- A TOKEN IS SEEN

skipped_to : (language : Language) (text : List ℕ) (i s e : ℕ) (x : Lexical) → TokenIs language text i s e x → Skipped language text i s
skipped_to language text i s e x t = record {
  onward = λ h. omega (arith, t.begins, skips_less language t.skips, length-drop i text, length-drop s text);
  within = t.begins;
  leads = t.skips;
  stops = t.stops;
  only = λ r k m. skips_once language t.skips t.stops k m;
}

-- a token that stands there is seen there
seen : (language : Language) (text : List ℕ) (i s e : ℕ) (x : Lexical) → TokenIs language text i s e x → Seen language text i s e x
seen language text i s e x t = record {
  skipped = skipped_to language text i s e x t;
  within = t.within;
  reads = t.reads;
  only = λ y r q. token_once language _ _ _ _ _ t.reads q;
}

-- WHAT THE GRAMMAR HAS IS READ

module _ (N : ℕ → Sight → Type 0) (T : ℕ → ℕ → ℕ → Lexical → Type 0)
    (sure : (i s e : ℕ) (x : Lexical) (v : Sight) → N i v → T i s e x → v ≡ sees s e x)
    (num : (i s e : ℕ) (k : NumberKind) (ds : List ℕ) → N i (sees s e (a_number k ds)) → Number ds k)
    (seen : (i s e : ℕ) (x : Lexical) → T i s e x → N i (sees s e x)) where
  -- what is seen between two values
  between : (language : Language) (close : Mark) (j k : ℕ) → is_mark close (a_mark comma) ≡ false → Separated T language j k → Opens T close k → (v : Sight) × N j v × (turn language close j v ≡ again k)
  between Json close j k h a o = let n = seen j a.0 k (a_mark comma) a.1 in (sees a.0 k (a_mark comma), n, turn_goes N T sure num Json close j k (sees a.0 k (a_mark comma)) h n a o)
  between Graphql close j k h a o =
      let n = subst (λ i. N i (sees o.s o.e o.x)) (sym a) (seen k o.s o.e o.x o.token) in
      (sees o.s o.e o.x, n, turn_goes N T sure num Graphql close j k (sees o.s o.e o.x) h n a o)

  module _ (language : Language) (distinct : Bool) where
    mutual
      reads : {i j : ℕ} {t : Raw} → Value T language i j t → (k d : ℕ) → k + d ≡ 33 → Bounded distinct k t → Reads N language distinct d i (got j t)
      reads {i} {t = t} (g_leaf {s = s} {e = e} {x = x} a l) k d w b = r_leaf (seen i s e x a) (omega (arith, deep_enough distinct k t b)) l
      reads {i} {j} {t = t} (g_variable {s = s} {e = e} {b = c} {w = n} a m) k d w b = r_variable (seen i s e (a_mark dollar) a) (omega (arith, deep_enough distinct k t b)) (seen e c j (a_name n) m) refl
      reads {i} {t = t} (g_list {s = s} {e = e} a g) k d w b = r_list (seen i s e (a_mark open_bracket) a) (omega (arith, deep_enough distinct k t b)) (reads_list g (suc k) (d - 1) (omega (arith, deep_enough distinct k t b)) b.1) refl
      reads {i} {t = t} (g_object {s = s} {e = e} a g) k d w b = r_object (seen i s e (a_mark open_brace) a) (omega (arith, deep_enough distinct k t b)) (reads_object g (suc k) (d - 1) (omega (arith, deep_enough distinct k t b)) b.1 b.2) refl

      reads_list : {i j : ℕ} {xs : Raws} → Values T language i j xs → (k d : ℕ) → k + d ≡ 33 → BoundedAll distinct k xs → ReadsList N language distinct d i (got j xs)
      reads_list {i} (g_nil {s = s} {e = e} a) k d w b = rl_nil (seen i s e (a_mark close_bracket) a)
      reads_list {i} (g_values g) k d w b = let o = items_open N T sure num language g in rl_items (seen i o.s o.e o.x o.token) o.other (reads_items g k d w b)

      reads_items : {i j : ℕ} {xs : Raws} → SomeValues T language i j xs → (k d : ℕ) → k + d ≡ 33 → BoundedAll distinct k xs → ReadsItems N language distinct d i (got j xs)
      reads_items (g_last {j = m} {s = s} {e = e} v a) k d w b =
          let n = seen m s e (a_mark close_bracket) a in
          ri_last (reads v k d w b.0) n (turn_closes N T sure num language close_bracket m s e (sees s e (a_mark close_bracket)) n a)
      reads_items (g_more {j = m} {k = l} v a r) k d w b =
          let o = between language close_bracket m l refl a (items_open N T sure num language r) in
          ri_more (reads v k d w b.0) o.1 o.2 (reads_items r k d w b.1) refl

      reads_object : {i j : ℕ} {ms : Mems} → Members T language i j ms → (k d : ℕ) → k + d ≡ 33 → Unrepeated distinct (mem_names ms) → BoundedMems distinct k ms → ReadsObject N language distinct d i (got j ms)
      reads_object {i} (g_end {s = s} {e = e} a) k d w f b = ro_end (seen i s e (a_mark close_brace) a)
      reads_object {i} {ms = ms} (g_members g) k d w f b =
          let o = members_open N T sure num language g in
          ro_members (seen i o.s o.e o.x o.token) o.other (reads_members g k d w (unrepeated_fresh distinct (mem_names ms) f) b)

      reads_members : {i j : ℕ} {ns : List Name} {ms : Mems} → SomeMembers T language i j ms → (k d : ℕ) → k + d ≡ 33 → Fresh distinct ns (mem_names ms) → BoundedMems distinct k ms → ReadsMembers N language distinct d ns i (got j ms)
      reads_members {i} (g_last_member {j = m} {s = s} {e = e} (g_member {s = p} {e = q} {b = b'} {c = c} {x = x} {n = n} a h l v) z) k d w f b =
          let y = seen m s e (a_mark close_brace) z in
          rm_last (na_name (seen i p q x a) h b.0 f.0 (seen q b' c (a_mark colon) l) refl) (reads v k d w b.1) y (turn_closes N T sure num language close_brace m s e (sees s e (a_mark close_brace)) y z)
      reads_members {i} (g_more_members {j = m} {k = r'} (g_member {s = p} {e = q} {b = b'} {c = c} {x = x} {n = n} a h l v) z r) k d w f b =
          let o = between language close_brace m r' refl z (members_open N T sure num language r) in
          rm_more (na_name (seen i p q x a) h b.0 f.0 (seen q b' c (a_mark colon) l) refl) (reads v k d w b.1) o.1 o.2 (reads_members r k d w f.1 b.2) refl

    pub reads_all : {t : Raw} → Text T language t → Bounded distinct 0 t → (e : ℕ) × ReadsAll N language distinct 33 (got e t)
    reads_all x b = (x.last, all_read (reads x.value 0 33 refl b) (seen x.to x.from x.last _ x.ends) refl)

pub writes_read : (language : Language) (text : List ℕ) (t : Raw) → Writes language text t → (e : ℕ) × ReadsAll (Sights language text) language true 33 (got e t)
writes_read language text t w = reads_all (Sights language text) (TokenIs language text) (sure language text) (sights_number language text) (seen language text) language true w.text_of (bounded_of 0 t w.within)

pub writes_once : (language : Language) (text : List ℕ) (t u : Raw) → Writes language text t → Writes language text u → t ≡ u
writes_once language text t u w v =
    let r = writes_read language text t w in
    let a = agree_all (Sights language text) (TokenIs language text) (sure language text) (sights_number language text) language true r.1 v.text_of (bounded_of 0 u v.within) in
    let e = a.1 in cc
