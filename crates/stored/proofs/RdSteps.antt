-- What the turns of reading keep.
use Rattle.std.proofs.Common.{◌≡◌, ℕ, ◌-◌, ◌<◌, ◌≤◌, Bool, true, false, List, [], ◌∷◌, ◌++◌, length, take, drop, Some, None, Option, Ok, Err, Result, MatchResult, Decides, vec_items, sym, refl, ap, ap₂, ◌∙◌, subst, arith}
use Rattle.std.proofs.lemmas.Bool.{false≢true}
use Rattle.std.proofs.Math.Seq.{take-append_seam}
use Rattle.std.specs.Option.{ok_or}
use Rattle.text.specs.Cuts.{part}
use Rattle.text.specs.declared.fault.Fault.{Fault}
use Rattle.text.specs.declared.fault.Fault.TheVariants.{BadText, TooDeep, NoSpace, RepeatedName, LongNumber, NoMemory}
use Rattle.model.specs.Values.{Rec, Recs, Rmems, r_list, r_object, r_nil, r_cons, r_end, r_mem, has}
use Rattle.model.specs.Limits.{NameLimits}
use Rattle.names.specs.declared.names.Link.{Link}
use Rattle.names.specs.declared.part.Part.TheVariants.{Text}
use Rattle.names.specs.Parts.{PartFits}
use Rattle.names.specs.Index.{Sound, Added, AddTold, names_from}
use Rattle.stored.specs.declared.header.Record.{Record}
use Rattle.stored.specs.declared.reading.Reader.{Reader}
use Rattle.stored.specs.declared.content.Content.{Content}
use Rattle.stored.specs.declared.content.Content.TheVariants.{Leaf, List as ListContent, Object}
use Rattle.stored.specs.declared.content.BodyError.{BodyError}
use Rattle.stored.specs.declared.content.BodyError.TheVariants.{BadForm, LongNumber as LongBody}
use Rattle.stored.specs.Frames.{Framed, end_of, RecordAt, RecordTold}
use Rattle.stored.specs.Contents.{Sensible, a_leaf, a_list, an_object, fault_at, ContentTold}
use Rattle.stored.specs.Outcomes.{Out, got, fails, as_list, as_object, NameAt, Unnamed, Reads, r_bad, r_long, r_leaf, r_items, r_members, ReadsItems, i_end, i_fails, i_more, ReadsMembers, m_end, m_fails, m_more}
use Rattle.stored.specs.Told.{Blames, Holds, Same, ValueAt, NewName}
use Rattle.stored.specs.OneFrame.{one_framed}
use Rattle.stored.proofs.FrLaws.{ends, within, ends_inside}
use Rattle.stored.proofs.OutSound.{framed-fills, body_fills}

-- a blame that is passed on
pub blames_on : (g : Fault) (P Q : Fault → Type 0) → ((f : Fault) → P f → Q f) → Blames g P → Blames g Q
blames_on (BadText k) P Q m x = m (BadText k) x
blames_on (TooDeep k) P Q m x = m (TooDeep k) x
blames_on (NoSpace k) P Q m x = m (NoSpace k) x
blames_on (RepeatedName k) P Q m x = m (RepeatedName k) x
blames_on (LongNumber k) P Q m x = m (LongNumber k) x
blames_on NoMemory P Q m x = tt

pub blamed : (g : Fault) (P : Fault → Type 0) → P g → Blames g P
blamed (BadText k) P x = x
blamed (TooDeep k) P x = x
blamed (NoSpace k) P x = x
blamed (RepeatedName k) P x = x
blamed (LongNumber k) P x = x
blamed NoMemory P x = tt

-- the record that was found, or that there is none
pub found : {bytes : List ℕ} {i to : ℕ} {o : Option Record} {h : Record} → o ≡ Some h → RecordTold bytes i to o → RecordAt bytes i to h
found {bytes} {i} {to} e f = subst (RecordTold bytes i to) e f

pub ok_or_none : {o : Option Record} {e f : Fault} → Err e ≡ ok_or o f → o ≡ None → e ≡ f
ok_or_none {o} {e} {f} v n = let w : ◌≡◌ {A = Result Record Fault} (Err e) (Err f) = subst (λ x. Err e ≡ ok_or x f) n v in cc

-- NAMES

pub other_kind : {bytes : List ℕ} {i to : ℕ} {h : Record} {r : Bool} → RecordAt bytes i to h → Decides r (h.kind ≡ 8) → r ≡ false → Unnamed bytes i to
other_kind f d e n a = false≢true (sym e ∙ d.1 (one_framed f.framed a.framed).0)

pub not_formed : {bytes : List ℕ} {i to : ℕ} {h : Record} {r : Bool} → RecordAt bytes i to h → Decides r (NameLimits h.body.now) → r ≡ false → Unnamed bytes i to
not_formed f d e n a = false≢true (sym e ∙ d.1 (subst NameLimits (sym (one_framed f.framed a.framed).1) a.within))

pub name_at : {bytes : List ℕ} {i to : ℕ} {h : Record} {r : Bool} → RecordAt bytes i to h → h.kind ≡ 8 → Decides r (NameLimits h.body.now) → r ≡ true → NameAt bytes i to h.body.now
name_at {bytes} {i = i} {to} {h} f k d t = record { framed = subst (λ n. Framed bytes i to n h.body.now) k f.framed; within = d.0 t }

-- the body is what stands where the record says
body_is : {bytes : List ℕ} {i to : ℕ} {h : Record} → RecordAt bytes i to h → part bytes h.from (end_of h) ≡ h.body.now
body_is {bytes} {i} {h = h} a =
    let n : end_of h - h.from ≡ length h.body.now = omega arith in
    ap₂ (λ (m : ℕ) (xs : List ℕ). take m xs) n (ap (λ k. drop k bytes) a.starts ∙ (body_fills (framed-fills a.framed refl)).there) ∙ take-append_seam h.body.now _

module _ {bytes : List ℕ} {i to e : ℕ} {h : Record} (f : RecordAt bytes i to h) (q : e ≡ end_of h) where
  cut_is : part bytes h.from e ≡ h.body.now
  cut_is = ap (λ k. part bytes h.from k) q ∙ body_is f

  fits : PartFits bytes [] (Text h.from e)
  fits = (omega arith, omega (arith, ends_inside f))

  pub has_it : {base : ℕ} (before after : List Link) (b : Bool) → b ≡ false → AddTold {E = Unit} bytes [] base before after (Text h.from e) (Ok b) → Sound bytes [] before base → has (names_from bytes [] before base) h.body.now ≡ true
  has_it before after true n t s = absurd (false≢true (sym n))
  has_it {base} before after false n t s = subst (λ n. has (names_from bytes [] before base) n ≡ true) cut_is (t.1 fits s)

  pub added_it : {base : ℕ} (before after : List Link) (b : Bool) → b ≡ true → AddTold {E = Unit} bytes [] base before after (Text h.from e) (Ok b) → base ≤ length before → Sound bytes [] before base → Added bytes [] base before after h.body.now
  added_it {base} before after true n t w s = subst (Added bytes [] base before after) cut_is (t w fits s)
  added_it before after false n t w s = absurd (false≢true n)

-- VALUES

pub sensible : (k : ℕ) (b : List ℕ) (x : Content) → ContentTold k b (Ok x) → Sensible k b
sensible k b Leaf t = a_leaf t.0 t.1
sensible k b ListContent t = a_list t
sensible k b Object t = an_object t

unfit : {bytes : List ℕ} {i to : ℕ} {h : Record} (d : ℕ) (e : BodyError) → RecordAt bytes i to h → ContentTold h.kind h.body.now (Err e) → Reads bytes d i to (fails (fault_at e i))
unfit d BadForm f t = r_bad f.framed t
unfit d LongBody f t = r_long f.framed t

pub refused_content : {bytes : List ℕ} {i to : ℕ} {h : Record} (x : Result Content BodyError) {f : Fault} → RecordAt bytes i to h → ContentTold h.kind h.body.now x → MatchResult x (λ y. ⊥) (λ e. f ≡ fault_at e i) → (d : ℕ) → Reads bytes d i to (fails f)
refused_content (Ok y) a t m d = absurd m
refused_content (Err e) a t m d = rw m (unfit d e a t)

pub as_content : {bytes : List ℕ} {i to : ℕ} {h : Record} {x y : Content} → x ≡ y → Holds bytes i to h x → Holds bytes i to h y
as_content {bytes} {i} {to} {h} e f = subst (Holds bytes i to h) e f

pub leaf_read : {bytes : List ℕ} {d i to : ℕ} {h : Record} → Holds bytes i to h Leaf → 0 < d → ValueAt bytes d i to (end_of h)
leaf_read (f, l) z = record { value = l.0; reads = r_leaf f.framed l.1 z (sym (ends f)); forward = omega (arith, f.starts); within = within f }

module _ {bytes : List ℕ} {d i to : ℕ} {h : Record} (f : Holds bytes i to h ListContent) (z : 0 < d) where
  as_items : {q : Out Recs} {o : Out Rec} → as_list q ≡ o → ReadsItems bytes (d - 1) h.from (end_of h) q → Reads bytes d i to o
  as_items {q} e x = r_items (subst (λ n. Framed bytes i to n h.body.now) f.1 f.0.framed) z (sym (ends f.0)) (subst (λ n. ReadsItems bytes (d - 1) n (end_of h) q) f.0.starts x) e

  pub list_read : (rs : Recs) × ReadsItems bytes (d - 1) h.from (end_of h) (got (end_of h) rs) → ValueAt bytes d i to (end_of h)
  list_read x = record { value = r_list x.0; reads = as_items refl x.1; forward = omega (arith, f.0.starts); within = within f.0 }

  pub list_blamed : (g : Fault) → Blames g (λ x. ReadsItems bytes (d - 1) h.from (end_of h) (fails x)) → Blames g (λ x. Reads bytes d i to (fails x))
  list_blamed g x = blames_on g (λ y. ReadsItems bytes (d - 1) h.from (end_of h) (fails y)) (λ y. Reads bytes d i to (fails y)) (λ y. as_items refl) x

module _ {bytes : List ℕ} {d i to : ℕ} {h : Record} (f : Holds bytes i to h Object) (z : 0 < d) where
  as_members : {q : Out Rmems} {o : Out Rec} → as_object q ≡ o → ReadsMembers bytes (d - 1) [] h.from (end_of h) q → Reads bytes d i to o
  as_members {q} e x = r_members (subst (λ n. Framed bytes i to n h.body.now) f.1 f.0.framed) z (sym (ends f.0)) (subst (λ n. ReadsMembers bytes (d - 1) [] n (end_of h) q) f.0.starts x) e

  pub object_read : (ms : Rmems) × ReadsMembers bytes (d - 1) [] h.from (end_of h) (got (end_of h) ms) → ValueAt bytes d i to (end_of h)
  object_read x = record { value = r_object x.0; reads = as_members refl x.1; forward = omega (arith, f.0.starts); within = within f.0 }

  pub object_blamed : (g : Fault) → Blames g (λ x. ReadsMembers bytes (d - 1) [] h.from (end_of h) (fails x)) → Blames g (λ x. Reads bytes d i to (fails x))
  object_blamed g x = blames_on g (λ y. ReadsMembers bytes (d - 1) [] h.from (end_of h) (fails y)) (λ y. Reads bytes d i to (fails y)) (λ y. as_members refl) x

-- ITEMS

pub onward : {u v w : Reader} → Same u v → Same v w → Same u w
onward a b = record { bytes = b.bytes ∙ a.bytes; names = b.names ∙ a.names }

-- the items from i to here are read: what those from here on come to, all from i on do
pub record SofarItems (bytes : List ℕ) (d i here to : ℕ) : Type 0 where
  pub within : here ≤ to
  pub reads : (rs : Recs) → ReadsItems bytes d here to (got to rs) → (ss : Recs) × ReadsItems bytes d i to (got to ss)
  pub faults : (f : Fault) → ReadsItems bytes d here to (fails f) → ReadsItems bytes d i to (fails f)

pub items_step : {bytes : List ℕ} {d i here to e : ℕ} → SofarItems bytes d i here to → here < to → ValueAt bytes d here to e → SofarItems bytes d i e to
items_step s h v = record {
  within = v.within;
  reads = λ rs x. s.reads (r_cons v.value rs) (i_more h v.reads x refl);
  faults = λ f x. s.faults f (i_more h v.reads x refl);
}

pub items_blamed : {bytes : List ℕ} {d i here to : ℕ} → SofarItems bytes d i here to → here < to → (g : Fault) → Blames g (λ x. Reads bytes d here to (fails x)) → Blames g (λ x. ReadsItems bytes d i to (fails x))
items_blamed {bytes} {d} {i} {here} {to} s h g x = blames_on g (λ y. Reads bytes d here to (fails y)) (λ y. ReadsItems bytes d i to (fails y)) (λ y r. s.faults y (i_fails h r)) x

pub items_ended : {bytes : List ℕ} {d i here to : ℕ} → SofarItems bytes d i here to → to ≤ here → (ss : Recs) × ReadsItems bytes d i to (got to ss)
items_ended s h = s.reads r_nil (i_end (let w = s.within in omega arith))

-- MEMBERS

-- the members from i to here are read, and their names noted from base on, above those at the entry
pub record SofarMembers (bytes : List ℕ) (d i here to base : ℕ) (entry links : List Link) : Type 0 where
  pub within : here ≤ to
  pub sound : Sound bytes [] links base
  pub longer : base ≤ length links
  pub below : take base links ≡ entry
  pub reads : (ms : Rmems) → ReadsMembers bytes d (names_from bytes [] links base) here to (got to ms) → (ks : Rmems) × ReadsMembers bytes d [] i to (got to ks)
  pub faults : (f : Fault) → ReadsMembers bytes d (names_from bytes [] links base) here to (fails f) → ReadsMembers bytes d [] i to (fails f)

pub members_step : {d i here to base c e : ℕ} {entry after : List Link} {v w : Reader} → SofarMembers v.bytes.now d i here to base entry (vec_items v.names.links) → here < to → NewName v here to base c w → ValueAt v.bytes.now d c to e → after ≡ vec_items w.names.links → SofarMembers v.bytes.now d i e to base entry after
members_step {d} {i} {here} {to} {base} {c} {e} {entry} {after} {v} s h n u k =
    let a = n.added in
    let bytes = v.bytes.now in
    let links = vec_items v.names.links in
    let ns = names_from bytes [] links base in
    let on : names_from bytes [] after base ≡ ns ++ n.name ∷ [] = ap (λ l. names_from bytes [] l base) k ∙ a.names in
    record {
      within = u.within;
      sound = subst (λ l. Sound bytes [] l base) (sym k) a.sound;
      longer = subst (λ l. base ≤ length l) (sym k) a.within;
      below = ap (take base) k ∙ a.below ∙ s.below;
      reads = λ ms x. s.reads (r_mem n.name u.value ms) (m_more h n.stands a.fresh n.ends u.reads (subst (λ l. ReadsMembers bytes d l e to (got to ms)) on x) refl);
      faults = λ f x. s.faults f (m_more h n.stands a.fresh n.ends u.reads (subst (λ l. ReadsMembers bytes d l e to (fails f)) on x) refl);
    }

pub members_blamed : {d i here to base c : ℕ} {entry : List Link} {v w : Reader} → SofarMembers v.bytes.now d i here to base entry (vec_items v.names.links) → here < to → NewName v here to base c w → (g : Fault) → Blames g (λ x. Reads v.bytes.now d c to (fails x)) → Blames g (λ x. ReadsMembers v.bytes.now d [] i to (fails x))
members_blamed {d} {i} {to = to} {c = c} {v = v} s h n g x =
    blames_on g (λ y. Reads v.bytes.now d c to (fails y)) (λ y. ReadsMembers v.bytes.now d [] i to (fails y)) (λ y r. s.faults y (m_fails h n.stands n.added.fresh n.ends r)) x

pub members_ended : {bytes : List ℕ} {d i here to base : ℕ} {entry links : List Link} → SofarMembers bytes d i here to base entry links → to ≤ here → (ks : Rmems) × ReadsMembers bytes d [] i to (got to ks)
members_ended s h = s.reads r_end (m_end (let w = s.within in omega arith))
