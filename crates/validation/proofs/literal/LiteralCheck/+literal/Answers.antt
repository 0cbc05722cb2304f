use Rattle.std.proofs.Common.{◌≡◌, ◌∙◌, false, ◌+◌, ◌++◌, drop, sym, ap, subst, append_assoc, arith}
use Rattle.std.proofs.lemmas.Bool.{ltb-true}
use Rattle.std.proofs.lemmas.List.{append-nil}
use Rattle.model.specs.Values.{object, find, place_of}
use Rattle.model.specs.Coercion.{member, first_undeclared}
use Rattle.model.specs.Checking.{check, check_all, check_list, check_object, check_fields, check_member, check_required, check_names, check_scalar, wrong_scalar, undeclared_in_all, undeclared_in_mems, unsupported_value_type, found}
use Rattle.source.specs.Heads.{kind_of}
use Rattle.source.specs.Standing.{Found}
use Rattle.source.specs.Table.{tree_table}
use Rattle.schema.specs.Documents.{Typed, field_of, fields_in, schema_of}
use Rattle.schema.specs.Holds.{Each, FieldHeld}
use Rattle.schema.specs.Rows.{base_in}
use Rattle.validation.specs.Diagnosed.{Noted}
use Rattle.validation.specs.Literals.{type_of}
use Rattle.validation.proofs.Notes.{Onwards, none_found, then_noted, onwards_start, onwards_step, onwards_end}
use Rattle.validation.proofs.Usages.{none_above}
use Rattle.validation.proofs.Shapes.{variable_is, list_is, object_is, scalar_from, check_some, check_none, inner_name, listed_type, named_type, no_member, one_member, found_none, found_some, default_there}
use Rattle.validation.proofs.Defined.{DefIs, def_is}
use Rattle.validation.proofs.Errors.{means}
use Rattle.validation.proofs.Compounds.{object_unsupported, names_held, each_at, each_over}
use Rattle.validation.proofs.Leading.{at_base, narrower, items_led, items_over, item_type}
use Rattle.validation.proofs.literal.LiteralCheck.+literal.Goals as goal

pub check-returns-in-Variable : goal.check-returns-in-Variable
check-returns-in-Variable g t c D vs x k b h =
    let l = c.args.location in
    let w = variable_is x (sym c.in-Variable.is ∙ c.kind.ensures x h) in
    subst (λ y. Noted c.args.found.now c.variable.new.found (check (schema_of D) vs l.has_default l.place y (type_of l.ty))) (sym w.2)
    (c.variable.ensures vs w.0 w.1 k.declares (subst (g.S.Source.stands c.args.self.now.source.now c.args.at) w.2 h))

pub check-returns-in-List : goal.check-returns-in-List
check-returns-in-List g t c D vs x k b h =
    let l = c.args.location in
    let w = list_is x (sym c.in-List.is ∙ c.kind.ensures x h) in
    let u = listed_type l.ty.shape.non_null l.ty.name.now l.ty.shape.levels (ltb-true 0 l.ty.shape.levels (sym c.is_list.ensures ∙ c.if-is_list.true)) in
    subst (λ y. Noted c.args.found.now c.items.new.found (check (schema_of D) vs l.has_default l.place y (type_of l.ty))) (sym w.2)
    (subst (λ T. Noted c.args.found.now c.items.new.found (check_list (schema_of D) w.0 (undeclared_in_all vs w.1) (check_all (schema_of D) vs w.1) T)) (sym u.2)
    (c.items.ensures D vs w.0 w.1 u.0 u.1 k b (subst (g.S.Source.stands c.args.self.now.source.now c.args.at) w.2 h) u.2))

pub check-returns-in-List-2 : goal.check-returns-in-List-2
check-returns-in-List-2 g t c D vs x k b h =
    let l = c.args.location in
    let w = list_is x (sym c.in-List.is ∙ c.kind.ensures x h) in
    let u = named_type l.ty.shape.non_null l.ty.name.now l.ty.shape.levels (none_above l.ty.shape.levels (sym c.if-is_list.false ∙ c.is_list.ensures)) in
    subst (λ y. Noted c.args.found.now c.list.new.found (check (schema_of D) vs l.has_default l.place y (type_of l.ty))) (sym w.2)
    (subst (λ T. Noted c.args.found.now c.list.new.found (check_list (schema_of D) w.0 (undeclared_in_all vs w.1) (check_all (schema_of D) vs w.1) T)) (sym u.1)
    (c.list.ensures D vs l.ty.name.now w.0 w.1 k b (subst (g.S.Source.stands c.args.self.now.source.now c.args.at) w.2 h)))

pub check-returns-in-Object : goal.check-returns-in-Object
check-returns-in-Object g t c D vs x k b h =
    let l = c.args.location in
    let w = object_is x (sym c.in-Object.is ∙ c.kind.ensures x h) in
    subst (λ y. Noted c.args.found.now c.object.new.found (check (schema_of D) vs l.has_default l.place y (type_of l.ty))) (sym w.2)
    (subst (λ n. Noted c.args.found.now c.object.new.found (check_object w.0 w.1 (undeclared_in_mems vs w.1) (check_member (schema_of D) vs w.1) (find (schema_of D) n))) (sym (inner_name l.ty.shape.non_null l.ty.name.now l.ty.shape.levels))
    (c.object.ensures D vs l.ty.name.now w.0 w.1 k b (subst (g.S.Source.stands c.args.self.now.source.now c.args.at) w.2 h)))

pub check-returns-in-Some : goal.check-returns-in-Some
check-returns-in-Some g t c D vs x k b h =
    let l = c.args.location in
    let w = scalar_from x c.kind.result (c.kind.ensures x h) c.in_default.not-Null c.in_default.not-Variable c.in_default.not-List c.in_default.not-Object in
    let st = subst (g.S.Source.stands c.args.self.now.source.now c.args.at) w.2 h in
    let e = c.in-Some.ensures D l.ty.name.now w.0 w.1 k.holds b st (c.kind.ensures x h ∙ ap kind_of w.2) in
    subst (λ y. Noted c.args.found.now c.note.new.self (check (schema_of D) vs l.has_default l.place y (type_of l.ty))) (sym w.2)
    (subst (λ n. Noted c.args.found.now c.note.new.self (check_scalar w.0 (wrong_scalar (find (schema_of D) n) w.1))) (sym (inner_name l.ty.shape.non_null l.ty.name.now l.ty.shape.levels))
    (subst (Noted c.args.found.now c.note.new.self) (check_some w.0 c.place.result _ c.in-Some.error e (c.place.ensures x h ∙ ap place_of w.2)) c.note.ensures))

pub check-returns-in_default-scalar_error : goal.check-returns-in_default-scalar_error
check-returns-in_default-scalar_error g t c D vs x k b h =
    let l = c.args.location in
    let w = scalar_from x c.kind.result (c.kind.ensures x h) c.in_default.not-Null c.in_default.not-Variable c.in_default.not-List c.in_default.not-Object in
    let st = subst (g.S.Source.stands c.args.self.now.source.now c.args.at) w.2 h in
    let e = rw c.in_default-scalar_error.is at (c.scalar_error.ensures D l.ty.name.now w.0 w.1 k.holds b st (c.kind.ensures x h ∙ ap kind_of w.2)) in
    subst (λ y. Noted c.args.found.now c.args.found.now (check (schema_of D) vs l.has_default l.place y (type_of l.ty))) (sym w.2)
    (subst (λ n. Noted c.args.found.now c.args.found.now (check_scalar w.0 (wrong_scalar (find (schema_of D) n) w.1))) (sym (inner_name l.ty.shape.non_null l.ty.name.now l.ty.shape.levels))
    (subst (Noted c.args.found.now c.args.found.now) (sym (check_none w.0 _ e)) (none_found c.args.found.now)))

pub object-returns-in-Custom : goal.object-returns-in-Custom
object-returns-in-Custom g t c D vs n p ms k e h =
    let s = c.args.self.now.schema.now in
    let f = subst (λ b. DefIs s D b (find (schema_of D) n)) (sym e ∙ c.in-Custom.is) (def_is s D k.holds n) in
    subst (λ d. Noted c.args.found.now c.contents.new.found (check_object p ms (undeclared_in_mems vs ms) (check_member (schema_of D) vs ms) d)) (sym f) (c.contents.ensures vs (object p ms) k.declares h)

pub object-returns-in-Input : goal.object-returns-in-Input
object-returns-in-Input g t c D vs n p ms k e h =
    let s = c.args.self.now.schema.now in
    let f = subst (λ b. DefIs s D b (find (schema_of D) n)) (sym e ∙ c.in-Input.is) (def_is s D k.holds n) in
    subst (λ d. Noted c.args.found.now c.fields.new.found (check_object p ms (undeclared_in_mems vs ms) (check_member (schema_of D) vs ms) d)) (sym f.1)
    (c.fields.ensures D vs f.0 p ms k (subst (λ rows. Each (FieldHeld (base_in D) (tree_table s.tree)) rows f.0) (sym c.fields_of.ensures) f.2) h)

pub object-returns-in_default : goal.object-returns-in_default
object-returns-in_default g t c D vs n p ms k e h =
    let s = c.args.self.now.schema.now in
    let m = means s D c.args.base _ (subst (λ b. DefIs s D b (find (schema_of D) n)) (sym e) (def_is s D k.holds n)) in
    subst (Noted c.args.found.now c.note.new.self) (sym (object_unsupported c.args.base _ p ms (undeclared_in_mems vs ms) (check_member (schema_of D) vs ms) m c.in_default.not-Custom c.in_default.not-Input))
    (subst (λ q. Noted c.args.found.now c.note.new.self (found unsupported_value_type q)) (c.place.ensures (object p ms) h) c.note.ensures)

pub fields-loop-field-init : goal.fields-loop-field-init
fields-loop-field-init g t c D vs ds p ms k e h = onwards_start _ _

pub fields-loop-field-preserved : goal.fields-loop-field-preserved
fields-loop-field-preserved g t c D vs ds p ms k e h =
    let i = c.loop-field.invariant D vs ds p ms k e h in
    let n = c.loop-field.field-index in
    let r = each_at (FieldHeld (base_in D) (tree_table c.args.self.now.schema.now.tree)) c.args.fields.now ds n _ e c.loop-field-test.true in
    let f = field_of r.0 in
    let a = check_required p f (member ms f.name) in
    let b = check_member (schema_of D) vs ms f in
    let w = check_fields p ms (check_member (schema_of D) vs ms) (fields_in ds) in
    onwards_step {xs = a ++ b}
    (subst (λ xs. Onwards c.first_undeclared.new.found c.loop-field.found xs w) (sym (append_assoc a b (check_fields p ms (check_member (schema_of D) vs ms) (fields_in (drop (n + 1) ds)))))
    (subst (λ es. Onwards c.first_undeclared.new.found c.loop-field.found (check_fields p ms (check_member (schema_of D) vs ms) (fields_in es)) w) r.1 i))
    (c.field.ensures D vs r.0 p ms k r.2 h)

pub fields-returns : goal.fields-returns
fields-returns g t c D vs ds p ms k e h =
    let i = c.loop-field.invariant D vs ds p ms k e h in
    let o = each_over (FieldHeld (base_in D) (tree_table c.args.self.now.schema.now.tree)) c.args.fields.now ds c.loop-field.field-index e (omega arith) in
    then_noted (subst (λ ns. Noted c.args.found.now c.first_undeclared.new.found (check_names (first_undeclared ns ms))) (names_held (base_in D) (tree_table c.args.self.now.schema.now.tree) c.args.fields.now ds e) (c.first_undeclared.ensures p ms h))
    (onwards_end (subst (λ es. Onwards c.first_undeclared.new.found c.loop-field.found (check_fields p ms (check_member (schema_of D) vs ms) (fields_in es)) (check_fields p ms (check_member (schema_of D) vs ms) (fields_in ds))) o i))

pub field-returns-in-Some : goal.field-returns-in-Some
field-returns-in-Some g t c D vs d p ms k f h =
    let s = c.args.self.now.source.now in
    let m = found_some (g.S.Source.stands s) (member ms c.args.field.now.name.now) c.in-Some.member (c.in-Some.ensures.found p ms h) in
    let e = ap (member ms) (sym f.name) ∙ m.1 in
    let z = default_there (tree_table c.args.self.now.schema.now.tree) c.args.field.now.default d.dflt f.default in
    then_noted (c.required.ensures (base_in D) (tree_table c.args.self.now.schema.now.tree) d p ms (member ms d.label.name) f h (subst (λ n. Found (g.S.Source.stands s) (member ms n) c.member-member.result) f.name (c.member-member.ensures.found p ms h)))
    (subst (Noted c.required.new.found c.check.new.found) (sym (one_member (schema_of D) vs ms (field_of d) m.0 e))
    (rw (c.is_some.ensures ∙ z, c.place.ensures m.0 m.2, ap (λ (y : Typed). y.ty) f.typed) at (c.check.ensures D vs m.0 k f.base m.2)))

pub field-returns-in_default : goal.field-returns-in_default
field-returns-in_default g t c D vs d p ms k f h =
    let s = c.args.self.now.source.now in
    let e = ap (member ms) (sym f.name) ∙ found_none (g.S.Source.stands s) (member ms c.args.field.now.name.now) (rw c.in_default.is at (c.member-member.ensures.found p ms h)) in
    let q = check_required p (field_of d) (member ms d.label.name) in
    subst (Noted c.args.found.now c.required.new.found) (sym (append-nil q) ∙ ap (λ xs. q ++ xs) (sym (no_member (schema_of D) vs ms (field_of d) e)))
    (c.required.ensures (base_in D) (tree_table c.args.self.now.schema.now.tree) d p ms (member ms d.label.name) f h (subst (λ n. Found (g.S.Source.stands s) (member ms n) c.member-member.result) f.name (c.member-member.ensures.found p ms h)))

pub items-loop-at-init : goal.items-loop-at-init
items-loop-at-init g t c = (
  tt,
  tt,
  rw c.into_iter-at-iterator.ensures.into_iter_gives c.values-at-items.ensures.source,
  rw c.into_iter-at-iterator.ensures.into_iter_gives c.values-at-items.ensures.narrow,
  (λ D vs xs k b m. (xs, m, onwards_start _ _)),
)

pub items-loop-at-preserved : goal.items-loop-at-preserved
items-loop-at-preserved g t c =
    let i = c.loop-at.invariant in
    let s = c.args.self.now.source.now in
    let k = at_base g.S.Source.past g.S.Source.named g.S.Source.stands g.S.Source.items g.S.Source.members _ s _ _ _ i.2 c.in-Some.ensures.steps.1 in (
      tt,
      tt,
      c.in-Some.ensures.steps.0 ∙ i.2,
      narrower k.taken i.3,
      (λ D vs xs w b m.
          let n = i.4 D vs xs w b m in
          let l = items_led (g.S.Source.named s) (g.S.Source.stands s) (g.S.Source.items s) (g.S.Source.members s) n.0 c.in-Some.at _ (k.item n.0 n.1) in
          let y = c.item-item.result in (
            l.1,
            l.4,
            onwards_step {xs = check (schema_of D) vs false (place_of l.0) l.0 (type_of y)}
                (subst (λ z. Onwards c.args.found.now c.loop-at.found (check_all (schema_of D) vs z (type_of y)) (check_all (schema_of D) vs xs (type_of y))) l.2 n.2)
                (rw (c.place.ensures l.0 l.3) at (c.check.ensures D vs l.0 w b l.3)),
          )),
    )

pub items-returns : goal.items-returns
items-returns g t c D vs p xs b u k e h f =
    let i = c.loop-at.invariant in
    let s = c.args.self.now.source.now in
    let ty = c.args.ty in
    let y = c.item-item.result in
    let q = at_base g.S.Source.past g.S.Source.named g.S.Source.stands g.S.Source.items g.S.Source.members _ s _ _ _ i.2 c.in-None.ensures.steps.1 in
    let be : y.shape.base ≡ base_in D y.name.now = rw (c.item-item.ensures.shape, c.item-item.ensures.name) e in
    let n = i.4 D vs xs k be (rw c.into_iter-at-iterator.ensures.into_iter_gives (c.values-at-items.ensures.listed p xs h)) in
    let z = items_over (g.S.Source.named s) (g.S.Source.stands s) (g.S.Source.items s) (g.S.Source.members s) n.0 (q.item n.0 n.1) in
    let v : type_of y ≡ u = rw (c.item-item.ensures.shape, c.item-item.ensures.name) (item_type ty.shape.non_null ty.name.now ty.shape.levels b u f) in
    subst (λ T. Noted c.args.found.now c.loop-at.found (check_all (schema_of D) vs xs T)) v
    (onwards_end (subst (λ ys. Onwards c.args.found.now c.loop-at.found (check_all (schema_of D) vs ys (type_of y)) (check_all (schema_of D) vs xs (type_of y))) z n.2))
