-- Texts of labels that are found: none yet, and with one edge more.
use Rattle.std.proofs.Common.{◌≡◌, ℕ, ◌⊎◌, inl, inr, Bool, false, List, [], ◌∷◌, ◌++◌, get_or, replicate, Some, None, sym, ap, subst, ◌∙◌, arith, true≢false}
use Rattle.std.specs.List.{Contains, slice_get}
use Rattle.std.proofs.lemmas.Bool.{cases_lt}
use Rattle.std.proofs.lemmas.List.{get_or-replicate, length-replicate}
use Rattle.std.proofs.Math.ListN.{get_or-eq_default}
use Rattle.std.proofs.lemmas.List.Elements.{Contains-append_left, Contains-push, Contains-push_cases}
use Rattle.std.proofs.lemmas.Option.{none-some, same_Some}
use Rattle.lore_base.proofs.MemberLaws.{Contains-none}
use Rattle.list_laws.proofs.MemberLaws.{none_in}
use Rattle.live_views.specs.Types.{Edge}
use Rattle.live_views.specs.inside.Touched.{IsNoted, AreFound}
use Rattle.live_views.proofs.LookLaws.{some_pushed}

-- none is noted at first
unnoted : (count place : ℕ) (noted : List Bool) → noted ≡ replicate count false → IsNoted noted place → ⊥
unnoted count place noted blank here = true≢false (sym here ∙ ap (λ (l : List Bool). get_or l place false) blank ∙ elim (cases_lt place count) [
  | inl within ↦ get_or-replicate count place false false within
  | inr beyond ↦ get_or-eq_default (replicate count false) false (omega (arith, beyond, length-replicate count false))
])

pub AreFound-none : (labels : List (List ℕ)) (count : ℕ) (noted : List Bool) (found : List (List ℕ)) → noted ≡ replicate count false → found ≡ []
    → AreFound labels [] noted found
AreFound-none labels count noted found blank none = record {
  exact = λ text. (λ at. absurd (none_in found text none at), λ h. absurd (Contains-none h.0 h.1));
  noted = λ place text here is. absurd (unnoted count place noted blank here);
}

-- where all that is found more is the text of the label of one edge more, if there is such a text
AreFound-edge : (labels : List (List ℕ)) (edges : List Edge) (edge : Edge) (before now : List Bool) (found more : List (List ℕ))
    → ((text : List ℕ) → Contains more text → Contains found text ⊎ (slice_get labels edge.label.0 ≡ Some text))
    → ((text : List ℕ) → Contains found text → Contains more text)
    → ((text : List ℕ) → slice_get labels edge.label.0 ≡ Some text → Contains more text)
    → ((place : ℕ) → IsNoted now place → IsNoted before place ⊎ (place ≡ edge.label.0))
    → AreFound labels edges before found → AreFound labels (edges ++ edge ∷ []) now more
AreFound-edge labels edges edge before now found more only kept own notes are = record {
  exact = λ text. some_pushed (λ (e : Edge). slice_get labels e.label.0 ≡ Some text) (Contains found text) (Contains more text) edges edge
      (only text, λ h. elim h [ inl old ↦ kept text old | inr here ↦ own text here ]) (are.exact text);
  noted = λ place text here is. elim (notes place here) [
    | inl old ↦ kept text (are.noted place text old is)
    | inr same ↦ own text (subst (λ (p : ℕ). slice_get labels p ≡ Some text) same is)
  ];
}

-- an edge whose label was noted
pub AreFound-met : (labels : List (List ℕ)) (edges : List Edge) (edge : Edge) (before now : List Bool) (found : List (List ℕ))
    → IsNoted before edge.label.0 → ((place : ℕ) → IsNoted now place → IsNoted before place ⊎ (place ≡ edge.label.0))
    → AreFound labels edges before found → AreFound labels (edges ++ edge ∷ []) now found
AreFound-met labels edges edge before now found met notes are =
    AreFound-edge labels edges edge before now found found (λ text at. inl at) (λ text at. at)
    (λ text is. are.noted edge.label.0 text met is) notes are

-- an edge whose label has a text
pub AreFound-text : (labels : List (List ℕ)) (edges : List Edge) (edge : Edge) (before now : List Bool) (found : List (List ℕ)) (text : List ℕ)
    → slice_get labels edge.label.0 ≡ Some text → ((place : ℕ) → IsNoted now place → IsNoted before place ⊎ (place ≡ edge.label.0))
    → AreFound labels edges before found → AreFound labels (edges ++ edge ∷ []) now (found ++ text ∷ [])
AreFound-text labels edges edge before now found text is notes are =
    AreFound-edge labels edges edge before now found (found ++ text ∷ [])
    (λ other at. elim (Contains-push_cases found text other at) [ inl old ↦ inl old | inr same ↦ inr (is ∙ ap (λ (t : List ℕ). Some t) same) ])
    (λ other at. Contains-append_left found (text ∷ []) other at)
    (λ other own. subst (Contains (found ++ text ∷ [])) (same_Some text other (sym is ∙ own)) (Contains-push found text)) notes are

-- and one whose label has none
pub AreFound-blank : (labels : List (List ℕ)) (edges : List Edge) (edge : Edge) (before now : List Bool) (found : List (List ℕ))
    → slice_get labels edge.label.0 ≡ None → ((place : ℕ) → IsNoted now place → IsNoted before place ⊎ (place ≡ edge.label.0))
    → AreFound labels edges before found → AreFound labels (edges ++ edge ∷ []) now found
AreFound-blank labels edges edge before now found none notes are =
    AreFound-edge labels edges edge before now found found (λ text at. inl at) (λ text at. at)
    (λ text own. absurd (none-some text (sym none ∙ own))) notes are
