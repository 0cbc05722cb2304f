-- What says the same but for places has the same outcome, and what stands in a sheet's bytes is what its record shows.
use Rattle.std.proofs.Common.{◌≡◌, ℕ, List, length, sym, refl, subst, ◌∙◌}
use Rattle.model.specs.Values.{Raw, Raws, Mems, mem, Rec, Recs, Rmems, r_object, r_mem}
use Rattle.model.specs.Records.{encode_mems}
use Rattle.model.specs.Back.{Shows, ShowsAll, ShowsMems, s_null, s_plain, s_list, s_object, s_nil, s_cons, s_end, s_mem}
use Rattle.model.specs.Calls.{Call, load}
use Rattle.model.specs.Twins.{Twin, TwinAll, TwinMems, w_null, w_scalar, w_variable, w_list, w_object, w_nil, w_cons, w_end, w_mem, TwinCalls, w_load, w_supply, w_withdraw, w_none, w_next}
use Rattle.model.proofs.TwinLaws.{shown-are_twins}
use Rattle.model.proofs.WalkTwins.{places_do_not_matter}
use Rattle.text.specs.declared.language.Language.TheVariants.{Json, Graphql}
use Rattle.reader.proofs.RdReads.{writes_once}
use Rattle.stored.specs.Cursors.{shown, Held}
use Rattle.stored.specs.Laws.{Within}
use Rattle.stored.specs.OneTree.{one_held}
use Rattle.stored.proofs.CuOne.{shown-shows, root_shows, root_held, sheet_within}
use Rattle.agreement.specs.Inputs.{Input, json_text, literal_text, sheet_value, sheet_bytes, form_of, Says, Agree, Request, CallsOf, c_load, c_supply, c_withdraw, c_none, c_next, AgreeAll, a_none, a_load, a_supply, a_withdraw}
use Rattle.agreement.specs.Laws.{SameOutcome, SourcesAgree, ShownAgree, EncodedStands}

pub twins_agree : (x y : Raw) → Twin x y → SameOutcome x y
twins_agree x y w = record {
  coerced = λ k S R p h t. places_do_not_matter.0 k S R p h x y w t;
  walked = λ k S R cap p h t depth used lead. places_do_not_matter.2 k S R cap p h x y w t depth used lead;
  loaded = λ k S R cap p vs st. places_do_not_matter.3 k S R cap vs st (load p x) (load p y) (w_load refl w);
}

one_said : (a : Input) (x y : Raw) → Says a x → Says a y → x ≡ y
one_said (json_text text) x y s u = writes_once Json text x y s u
one_said (literal_text text) x y s u = writes_once Graphql text x y s u
one_said (sheet_value bytes at) x y s u = one_held bytes at x y s u

agree_twins : (a b : Input) → Agree a b → (x y : Raw) → Says a x → Says b y → Twin x y
agree_twins a b g x y s u = subst (λ z. Twin z y) (one_said a g.value x g.says s) (subst (Twin g.value) (one_said b g.other y g.says_other u) g.twins)

-- requests that agree come to calls that are twins
asked_twins : {qs rs : List Request} → AgreeAll qs rs → {cs es : List Call} → CallsOf qs cs → CallsOf rs es → TwinCalls cs es
asked_twins a_none c_none c_none = w_none
asked_twins (a_load {a = a} {b = b} g gs) (c_next (c_load {x = x} s) ss) (c_next (c_load {x = y} u) us) = w_next (w_load g.forms (agree_twins a b g x y s u)) (asked_twins gs ss us)
asked_twins (a_supply {a = a} {b = b} g gs) (c_next (c_supply {x = x} s) ss) (c_next (c_supply {x = y} u) us) = w_next (w_supply refl g.forms (agree_twins a b g x y s u)) (asked_twins gs ss us)
asked_twins (a_withdraw gs) (c_next c_withdraw ss) (c_next c_withdraw us) = w_next (w_withdraw refl) (asked_twins gs ss us)

pub sources_agree_lem : SourcesAgree
sources_agree_lem = record {
  said = one_said;
  outcome = λ a b x y s u w. twins_agree x y w;
  loaded = λ a b g x y s u k S R cap vs st. places_do_not_matter.3 k S R cap vs st (load (form_of a) x) (load (form_of b) y) (w_load g.forms (agree_twins a b g x y s u));
  asked = λ qs rs g cs es s u k S R cap vs. places_do_not_matter.4 k S R cap vs cs es (asked_twins g s u);
}

-- what shows a record still does with other places
mutual
  shows_too : {r : Rec} {x y : Raw} → Twin x y → Shows r y → Shows r x
  shows_too w_null s_null = s_null
  shows_too (w_scalar e) (s_plain f) = s_plain (f ∙ sym e)
  shows_too (w_variable e) a = elim a [ ]
  shows_too (w_list ws) (s_list a) = s_list (shows_too_all ws a)
  shows_too (w_object ws) (s_object a) = s_object (shows_too_mems ws a)

  shows_too_all : {rs : Recs} {xs ys : Raws} → TwinAll xs ys → ShowsAll rs ys → ShowsAll rs xs
  shows_too_all w_nil s_nil = s_nil
  shows_too_all (w_cons w ws) (s_cons a b) = s_cons (shows_too w a) (shows_too_all ws b)

  shows_too_mems : {rs : Rmems} {ms ns : Mems} → TwinMems ms ns → ShowsMems rs ns → ShowsMems rs ms
  shows_too_mems w_end s_end = s_end
  shows_too_mems (w_mem {x = x} {ms = ms} e w ws) (s_mem {n = n} {r = r} {rs = rs} a b) =
      subst (λ m. ShowsMems (r_mem n r rs) (mem m x ms)) (sym e) (s_mem (shows_too w a) (shows_too_mems ws b))

held_shows : (bytes : List ℕ) (at : ℕ) (y : Raw) (h : Held bytes at y) → Shows h.value y
held_shows bytes at y h = subst (Shows h.value) h.shows (shown-shows h.place h.from h.value)

pub root_is : (bytes : List ℕ) (ms : Rmems) (y : Raw) → Within bytes ms → Held bytes (length bytes) y → shown 0 0 (r_object ms) ≡ y
root_is bytes ms y w h = one_held bytes (length bytes) (shown 0 0 (r_object ms)) y (root_held bytes ms w.short w.decodes.bytes_are w.within) h

shown_there : (bytes : List ℕ) (ms : Rmems) (y : Raw) → Within bytes ms → Held bytes (length bytes) y → Shows (r_object ms) y
shown_there bytes ms y w h = subst (Shows (r_object ms)) (root_is bytes ms y w h) (root_shows ms)

-- the tree at the root of a sheet's bytes
root : (bytes : List ℕ) (ms : Rmems) → Within bytes ms → Says (sheet_bytes bytes) (shown 0 0 (r_object ms))
root bytes ms w = root_held bytes ms w.short w.decodes.bytes_are w.within

pub shown_agree_lem : ShownAgree
shown_agree_lem = record {
  twins = λ bytes at x y h. ((λ s. shown-are_twins.3 h.value x y s (held_shows bytes at y h)), (λ w. shows_too w (held_shows bytes at y h)));
  agree = λ text bytes ms x s w h. record {
    forms = refl;
    value = x;
    other = shown 0 0 (r_object ms);
    says = s;
    says_other = root bytes ms w;
    twins = shown-are_twins.3 (r_object ms) x (shown 0 0 (r_object ms)) h (root_shows ms);
  };
  shown = λ text bytes ms x s w g. shows_too (agree_twins (json_text text) (sheet_bytes bytes) g x (shown 0 0 (r_object ms)) s (root bytes ms w)) (root_shows ms);
}

pub encoded_stands_lem : EncodedStands
encoded_stands_lem = record {
  stands = λ ms l n. (shown 0 0 (r_object ms), root_held (encode_mems ms) ms n refl l);
  shown = λ ms l n y h. shown_there (encode_mems ms) ms y (sheet_within ms l n) h;
}
