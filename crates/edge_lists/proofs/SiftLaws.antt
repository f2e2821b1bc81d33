-- Edges that are sifted one after another.
use Rattle.std.proofs.Common.{◌≡◌, ℕ, ◌+◌, ◌<◌, Less, Option, Some, None, List, [], ◌∷◌, ◌++◌, length, get_or, take, drop, Contains, sym, ap, ◌∙◌, inl, inr, subst, arith}
use Rattle.std.proofs.lemmas.List.{take_more, length-take, append-nil, take-append-drop, get_or_append_left, get_or_default}
use Rattle.std.proofs.lemmas.List.Elements.{Contains-push, Contains-push_cases, Contains-append_left, Contains-get_or}
use Rattle.std.proofs.lemmas.List.Quantifiers.{all_pairs_push}
use Rattle.slab.specs.Slab.{Slab}
use Rattle.std.specs.Option.{IfSome, IfNone}
use Rattle.edge_lists.specs.Types.{Edge, Out, EdgeRecord}
use Rattle.edge_lists.specs.Edges.{side_cmp, Ascend}
use Rattle.edge_lists.specs.Records.{LiesAt, HasEdge}
use Rattle.edge_lists.specs.Sifts.{AreSifted, if_there, if_absent}

-- the edges before a place are below the one that stands there
below_at : (edges : List Edge) → Ascend Out edges → (i : ℕ) (d : Edge) → i < length edges → (e : Edge) → Contains (take i edges) e → side_cmp Out e (get_or edges i d) ≡ Less
below_at edges ascends i d lt e at =
    let k = at.0 in
    let lt_k : k < i = omega (arith, at.1, length-take i edges) in
    let read : get_or edges k e ≡ e = ap (λ (xs : List Edge). get_or xs k e) (sym (take-append-drop i edges)) ∙ get_or_append_left (take i edges) (drop i edges) e k at.1 ∙ at.2 in
    let here : get_or edges i e ≡ get_or edges i d = get_or_default edges i e d lt in
    subst (λ (x : Edge). side_cmp Out x (get_or edges i d) ≡ Less) read (subst (λ (x : Edge). side_cmp Out (get_or edges k e) x ≡ Less) here (ascends k i e lt_k lt))

pub sift_there : (records : Slab EdgeRecord) (edges : List Edge) → Ascend Out edges → (i : ℕ) (d : Edge) → i < length edges → (there more absent : List Edge) (key : ℕ)
    → AreSifted records (take i edges) there absent → LiesAt records key (get_or edges i d) → more ≡ there ++ get_or edges i d ∷ [] → AreSifted records (take (i + 1) edges) more absent
sift_there records edges ascends i d lt there more absent key so lies is =
    subst (λ (xs : List Edge). AreSifted records xs more absent) (sym (take_more edges i d lt))
    (subst (λ (xs : List Edge). AreSifted records (take i edges ++ get_or edges i d ∷ []) xs absent) (sym is) all)
  where
    e : Edge
    e = get_or edges i d

    all : AreSifted records (take i edges ++ e ∷ []) (there ++ e ∷ []) absent
    all = record {
      there_ascends = all_pairs_push (λ a b. side_cmp Out a b ≡ Less) there e so.there_ascends
          (λ k x lt_k. below_at edges ascends i d lt (get_or there k x) ((so.found (get_or there k x)).0 (Contains-get_or there k x lt_k)).0);
      found = λ x. (
        λ at. elim (Contains-push_cases there e x at) [
          | inl earlier ↦ (let both = (so.found x).0 earlier in (Contains-append_left (take i edges) (e ∷ []) x both.0, both.1))
          | inr here ↦ (subst (λ (y : Edge). Contains (take i edges ++ e ∷ []) y) here (Contains-push (take i edges) e), (key, lies ∙ ap Some here))
        ],
        λ both. elim (Contains-push_cases (take i edges) e x both.0) [
          | inl earlier ↦ Contains-append_left there (e ∷ []) x ((so.found x).1 (earlier, both.1))
          | inr here ↦ subst (λ (y : Edge). Contains (there ++ e ∷ []) y) here (Contains-push there e)
        ],
      );
      absent_ascends = so.absent_ascends;
      missed = λ x. (
        λ at. (let both = (so.missed x).0 at in (Contains-append_left (take i edges) (e ∷ []) x both.0, both.1)),
        λ both. elim (Contains-push_cases (take i edges) e x both.0) [
          | inl earlier ↦ (so.missed x).1 (earlier, both.1)
          | inr here ↦ absurd (both.1 (key, lies ∙ ap Some here))
        ],
      );
    }

pub sift_absent : (records : Slab EdgeRecord) (edges : List Edge) → Ascend Out edges → (i : ℕ) (d : Edge) → i < length edges → (there absent more : List Edge)
    → AreSifted records (take i edges) there absent → (¬ HasEdge records (get_or edges i d)) → more ≡ absent ++ get_or edges i d ∷ [] → AreSifted records (take (i + 1) edges) there more
sift_absent records edges ascends i d lt there absent more so none is =
    subst (λ (xs : List Edge). AreSifted records xs there more) (sym (take_more edges i d lt))
    (subst (λ (xs : List Edge). AreSifted records (take i edges ++ get_or edges i d ∷ []) there xs) (sym is) all)
  where
    e : Edge
    e = get_or edges i d

    all : AreSifted records (take i edges ++ e ∷ []) there (absent ++ e ∷ [])
    all = record {
      there_ascends = so.there_ascends;
      found = λ x. (
        λ at. (let both = (so.found x).0 at in (Contains-append_left (take i edges) (e ∷ []) x both.0, both.1)),
        λ both. elim (Contains-push_cases (take i edges) e x both.0) [
          | inl earlier ↦ (so.found x).1 (earlier, both.1)
          | inr here ↦ absurd (none (subst (λ (y : Edge). HasEdge records y) (sym here) both.1))
        ],
      );
      absent_ascends = all_pairs_push (λ a b. side_cmp Out a b ≡ Less) absent e so.absent_ascends
          (λ k x lt_k. below_at edges ascends i d lt (get_or absent k x) ((so.missed (get_or absent k x)).0 (Contains-get_or absent k x lt_k)).0);
      missed = λ x. (
        λ at. elim (Contains-push_cases absent e x at) [
          | inl earlier ↦ (let both = (so.missed x).0 earlier in (Contains-append_left (take i edges) (e ∷ []) x both.0, both.1))
          | inr here ↦ (subst (λ (y : Edge). Contains (take i edges ++ e ∷ []) y) here (Contains-push (take i edges) e), subst (λ (y : Edge). ¬ HasEdge records y) here none)
        ],
        λ both. elim (Contains-push_cases (take i edges) e x both.0) [
          | inl earlier ↦ Contains-append_left absent (e ∷ []) x ((so.missed x).1 (earlier, both.1))
          | inr here ↦ subst (λ (y : Edge). Contains (absent ++ e ∷ []) y) here (Contains-push absent e)
        ],
      );
    }

pub sift_none : (records : Slab EdgeRecord) → AreSifted records [] [] []
sift_none records = record {
  there_ascends = λ i j d lt len. absurd (omega (arith, len));
  found = λ x. (λ at. absurd (omega (arith, at.1)), λ both. both.0);
  absent_ascends = λ i j d lt len. absurd (omega (arith, len));
  missed = λ x. (λ at. absurd (omega (arith, at.1)), λ both. both.0);
}

-- an edge is noted
pub sift_noted : (records : Slab EdgeRecord) (edges : List Edge) → Ascend Out edges → (i : ℕ) (d : Edge) → i < length edges → (there absent more fewer : List Edge) (key : Option ℕ)
    → AreSifted records (take i edges) there absent → IfSome key (λ k. LiesAt records k (get_or edges i d)) → IfNone key (¬ HasEdge records (get_or edges i d))
    → more ≡ there ++ if_there key (get_or edges i d) → fewer ≡ absent ++ if_absent key (get_or edges i d) → AreSifted records (take (i + 1) edges) more fewer
sift_noted records edges ascends i d lt there absent more fewer (Some key) so some none there_is absent_is =
    subst (λ (xs : List Edge). AreSifted records (take (i + 1) edges) more xs) (sym (absent_is ∙ append-nil absent)) (sift_there records edges ascends i d lt there more absent key so some there_is)
sift_noted records edges ascends i d lt there absent more fewer None so some none there_is absent_is =
    subst (λ (xs : List Edge). AreSifted records (take (i + 1) edges) xs fewer) (sym (there_is ∙ append-nil there)) (sift_absent records edges ascends i d lt there absent fewer so none absent_is)

pub sift_start : (records : Slab EdgeRecord) (there absent : List Edge) → there ≡ [] → absent ≡ [] → AreSifted records [] there absent
sift_start records there absent none_there none_absent =
    subst (λ (xs : List Edge). AreSifted records [] xs absent) (sym none_there) (subst (λ (xs : List Edge). AreSifted records [] [] xs) (sym none_absent) (sift_none records))
