-- A link whose child comes behind all that are listed.
use Rattle.std.proofs.Common.{◌≡◌, ◌<◌, ℕ, Some, None, List, [], ◌∷◌, ◌++◌, length, All, refl, sym, ◌∙◌, subst}
use Rattle.link_index.specs.declared.link.Link.{Link}
use Rattle.link_index.specs.declared.records.LinkRecord.{LinkRecord}
use Rattle.link_index.specs.declared.heads.Head.{Head}
use Rattle.link_index.specs.inside.Heads.{IsWithChild}
use Rattle.link_index.specs.inside.Records.{HasLink, child_of, AreAscendingHeads, IsListed, AreChained, IsPlace, next_of, IsWritten, ArePut}
use Rattle.link_index.proofs.HeadLaws.{alone, head-none, gap_none, gap_behind, pushed_child, headed_last, heads_chain, child_listed}
use Rattle.link_index.proofs.RecordLaws.{led_head, put_one}

pub put_alone : (heads new : List Head) (r0 r1 : List LinkRecord) (link : Link) (key : ℕ) → AreAscendingHeads heads → All (λ h. h.child.0 < link.child.0) heads → AreChained heads r0
    → IsWritten r0 key (record { edge = Some link; after = None }) r1 → new ≡ heads ++ record { child = link.child; first = Some key } ∷ [] → ArePut (link ∷ []) r0 new r1
put_alone heads new r0 r1 link key ascend below chained put is =
    subst (λ (h : List Head). ArePut (link ∷ []) r0 h r1) (sym is)
    (put_one listed (heads ++ record { child = link.child; first = Some key } ∷ []) r0 r1 r1 link None None key
    (heads_chain heads listed r0 with_child.same chained) (λ has. none_there link has refl) place none put
    (led_head listed (heads ++ record { child = link.child; first = Some key } ∷ []) r1 link.child (Some key) (headed_last heads link.child (Some key) with_child.ascend)))
  where
    listed : List Head
    listed = heads ++ alone link.child ∷ []

    with_child : IsWithChild heads link.child listed
    with_child = pushed_child heads listed link.child ascend below refl

    unlisted : ¬ IsListed heads link.child
    unlisted at = gap_none heads link.child (length heads) (gap_behind heads link.child below) at

    none_there : (x : Link) → HasLink r0 x → child_of x ≡ link.child → ⊥
    none_there x has same = unlisted (subst (IsListed heads) same (child_listed heads r0 x chained has))

    place : IsPlace r0 link None
    place = λ k x lies less. none_there x (k, lies) less.0

    none : None ≡ next_of listed r0 link.child None
    none = sym (with_child.same link.child ∙ head-none heads link.child unlisted)
