use Rattle.std.proofs.Common.{◌≡◌, ◌<◌, ◌++◌, ◌∷◌, [], List, length, map, ap, ◌∙◌, arith}
use denote.Ref.{Bor}
use Rattle.lore_base.specs.Walks.{oid_of}
use Rattle.lorel_trees.specs.Trees.{literal_tree}
use Rattle.lorel_trees.specs.declared.literals.Literal.{Literal}
use Rattle.oem_text.specs.Types.{Value}
use Rattle.oem_text.specs.Literals.{Body}
use Rattle.oem_text.specs.Layouts.{LaidOut}
use Rattle.oem_text.specs.inside.Views.{body_of, bodies_of}
use Rattle.oem_text.proofs.LaidLaws.{value_here, object_more}
use Rattle.oem_text.proofs.layouts.Layout.put_objects.Goals as goal

pub literals-preserved : goal.literals-preserved
literals-preserved c =
    let i = c.literals.literal-index in
    let values = c.args.self.now.values in
    let literals = c.deref-literal-items.result.now in
    let literal = c.literal-item.result in
    let value = (body_of (literal_tree literal.now)).value in
    let low : i < length literals = omega arith in
    let same : map (λ (body : Body). body.value) (bodies_of literals) ≡ values =
    ap (λ (l : List (Bor Literal)). map (λ (body : Body). body.value) (bodies_of l)) c.deref-literal-items.ensures.value ∙ ap (λ (l : LaidOut). l.values) c.self.view_is in
    let step = c.in_ok-push.ensures.ok ∙ ap (λ (v : Value). c.literals.objects ++ (oid_of c.literals.number, v) ∷ []) c.in_ok-copied_value.ensures in
    record {
      numbered = object_more c.literals.objects c.push.new.self _ c.literals.number i values value
          (value_here literals values i literal same low c.literal-item.is) step c.literals.invariant.numbered;
      number = omega arith;
    }
