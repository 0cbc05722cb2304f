-- A sheet's bytes after any list of calls are within the limits, and loaded they leave equal bytes.
use Rattle.std.proofs.Common.{◌≡◌, ℕ, ◌+◌, false, List, [], ◌∷◌, refl, subst, ◌∙◌, arith}
use mathlib.Core.Option.{Option, none, some}
use Rattle.std.proofs.lemmas.Bool.{cond-false}
use Rattle.model.specs.Values.{Name, json, Raw, Ty, Schema, Variable, Rec, Rmems, r_object, has, same}
use Rattle.model.specs.Records.{size}
use Rattle.model.specs.Refusals.{ok}
use Rattle.model.specs.Coercion.{Rule, Slots, put, sheet_of}
use Rattle.model.specs.Back.{Distinct}
use Rattle.model.specs.Limits.{NameLimits, RecLimits, RecLimitsMems, rec_names, EachName, SchemaLimits, Shallow}
use Rattle.model.specs.Calls.{Standing, Sheet, load, bytes_of, answer}
use Rattle.model.specs.Laws.{stood}
use Rattle.model.proofs.CoNames.{has_none}
use Rattle.model.proofs.WalkFits.{walk-fits}
use Rattle.model.proofs.WalkLimits.{accepts_within}
use Rattle.model.proofs.ByteLaws.{size-is_length, decodes_once}
use Rattle.model.proofs.CoConforms.{accepts_conforming}
use Rattle.model.proofs.CoBack.{comes_back}
use Rattle.model.proofs.RunStands.{Rights, rights_none, rights_more, ShallowSlot, names, run_held}
use Rattle.model.proofs.RunBytes.{FromSource, all_source, Came, Stands, right_stands, Each}
use Rattle.model.proofs.RunBack.{loads_back_from}
use Rattle.stored.specs.Cursors.{shown_mems}
use Rattle.stored.specs.Laws.{Within}
use Rattle.stored.specs.OneTree.{limits_fit_mems}
use Rattle.stored.proofs.CuOne.{shown-shows_mems}
use Rattle.agreement.specs.Laws.{SheetsComeBack}
use Rattle.agreement.proofs.Agreeing.{root_is}

-- a sheet has no name that no variable has
unnamed : (vs : List Variable) (os : Slots) (n : Name) → has (names vs) n ≡ false → has (rec_names (sheet_of vs os)) n ≡ false
unnamed [] os n u = refl
unnamed (v ∷ vs) [] n u = refl
unnamed (v ∷ vs) (none ∷ os) n u = unnamed vs os n (has_none v.field.name n (names vs) u).1
unnamed (v ∷ vs) (some r ∷ os) n u =
    let a = has_none v.field.name n (names vs) u in
    cond-false (same v.field.name n) _ _ a.0 ∙ unnamed vs os n a.1

distinct : (vs : List Variable) (os : Slots) → Distinct (names vs) → Distinct (rec_names (sheet_of vs os))
distinct [] os u = tt
distinct (v ∷ vs) [] u = tt
distinct (v ∷ vs) (none ∷ os) u = distinct vs os u.1
distinct (v ∷ vs) (some r ∷ os) u = (unnamed vs os v.field.name u.0, distinct vs os u.1)

module _ (k : ℕ) (S : Schema) (R : Rule) (limits : SchemaLimits S) where
  came_within : (t : Ty) (x : Raw) (r : Rec) → Came k S R t x r → Shallow 1 r → RecLimits 1 r
  came_within t x r c h =
      let w = (walk-fits k S R (0 + (0 + size r)) c.form c.place x t 1 0 0 r).0 c.coerced h (omega arith) in
      (accepts_within k S R limits (0 + (0 + size r)) c.form c.place x t 1 0 0 r c.limits w).0

  put_within : (n : Name) (t : Ty) (x : Option Raw) (o : Option Rec) (ms : Rmems) → NameLimits n → Stands k S R t x o → ShallowSlot o → RecLimitsMems 1 ms → RecLimitsMems 1 (put n o ms)
  put_within n t x none ms l a h f = f
  put_within n t none (some r) ms l a h f = absurd a
  put_within n t (some x) (some r) ms l a h f = (l, came_within t x r a h, f)

  sheet_limits : {vs : List Variable} {gs : Standing} {os : Slots} → Rights FromSource k S R vs gs os → EachName (names vs) → Each vs → RecLimitsMems 1 (sheet_of vs os)
  sheet_limits rights_none l d = tt
  sheet_limits (rights_more {v = v} {vs = vs} {g = g} {o = o} {os = os} p r m) l d =
      put_within v.field.name v.field.ty (stood v g) o (sheet_of vs os) l.0 (right_stands k S R v g o r p d.0) r.shallow (sheet_limits m l.1 d.1)

pub sheets_come_back_lem : SheetsComeBack
sheets_come_back_lem k S R limits vs l room c cs i s e =
    let h = run_held walk-fits FromSource k S R room vs l.1 cs (all_source cs i) s e in
    let ms = sheet_of vs s.slots in
    let z = size-is_length.1 ms in
    let r : RecLimits 0 (r_object ms) = (omega arith, distinct vs s.slots l.1, sheet_limits k S R limits h.rights l.0 l.2) in
    let w : Within (bytes_of vs s.slots) ms = record { short = omega (arith, h.within); decodes = record { fits = limits_fit_mems 1 ms r.2; bytes_are = refl }; within = r } in
    record {
      within = w;
      loaded = λ y g dap f d st.
          subst (λ (x : Raw). (u : Sheet) × (answer k S R dap vs st (load json x) ≡ ok u) × (bytes_of vs u.slots ≡ bytes_of vs s.slots)) (root_is (bytes_of vs s.slots) ms y w g)
          (loads_back_from walk-fits size-is_length accepts_within decodes_once accepts_conforming comes_back k S R limits vs l room dap cs s ms 0 (shown_mems 0 ms) e w.decodes (shown-shows_mems 0 ms) f d i st);
    }
