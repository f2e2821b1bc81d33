-- Objects that lead to others, taken label by label from the last one on.
use Rattle.std.proofs.Common.{◌≡◌, ◌<◌, ◌≤◌, ◌+◌, ◌-◌, ◌++◌, ℕ, ℤ, inl, inr, List, [], ◌∷◌, length, map, get_or, take, drop, refl, sym, ap, ◌∙◌, subst, arith}
use Rattle.std.specs.List.{Contains}
use Rattle.std.specs.Prelude.{Some}
use Rattle.std.proofs.lemmas.List.{take_more, take_all, get_or_default}
use Rattle.std.proofs.lemmas.List.Elements.{Contains-append_left, Contains-append_right, Contains-push_cases}
use Rattle.list_laws.proofs.MemberLaws.{Contains-map}
use Rattle.list_laws.proofs.PartLaws.{drop_more_read}
use Rattle.lore_base.specs.Lists.{ExtendsBy}
use Rattle.lore_base.specs.Walks.{Walk, edge_of, ListsEntering}
use Rattle.lore_base.proofs.MemberLaws.{Contains-none}
use Rattle.join_tables.specs.Types.{Oid, Label, Edge}
use Rattle.join_tables.specs.inside.Leading.{parent_of, TakesParents, LeadBy, LeadInto}

module _ (links : List Edge) where
  -- those of one child more
  pub parents_taken : (label : Label) (child : ℤ × Oid) (number : ℤ) (before edges read : List Edge) (old new : List (ℤ × Oid)) → number ≡ child.0 → before ≡ []
      → ExtendsBy (ListsEntering links child.1 (Some label)) before edges → read ≡ edges → new ≡ old ++ map (parent_of number) read
      → TakesParents links label child old new
  parents_taken label child number before edges read old new own none extends same grown =
      let whole : read ≡ extends.0 = same ∙ extends.1 ∙ ap (λ (l : List Edge). l ++ extends.0) none in
      record {
        kept = λ row at. subst (λ (l : List (ℤ × Oid)). Contains l row) (sym grown) (Contains-append_left old (map (parent_of number) read) row at);
        taken = λ parent led.
            let edge : Edge = edge_of parent label child.1 in
            let there : Contains read edge = subst (λ (l : List Edge). Contains l edge) (sym whole) ((extends.2.exact edge).1 (led, refl, refl)) in
            subst (λ (n : ℤ). Contains new (n, parent)) own
            (subst (λ (l : List (ℤ × Oid)). Contains l (number, parent)) (sym grown)
            (Contains-append_right old (map (parent_of number) read) (number, parent) (Contains-map (parent_of number) read edge there)));
      }

  pub led_none : (label : Label) (rows : List (ℤ × Oid)) → LeadBy links label [] rows
  led_none label rows number child parent at led = absurd (Contains-none (number, child) at)

  pub led_more : (label : Label) (children old new : List (ℤ × Oid)) (i : ℕ) (d : ℤ × Oid) → i < length children
      → TakesParents links label (get_or children i d) old new → LeadBy links label (take i children) old → LeadBy links label (take (i + 1) children) new
  led_more label children old new i d within more so_far number child parent at led =
      elim (Contains-push_cases (take i children) (get_or children i d) (number, child)
      (subst (λ (l : List (ℤ × Oid)). Contains l (number, child)) (take_more children i d within) at)) [
        | inl early ↦ more.kept (number, parent) (so_far number child parent early led)
        | inr same ↦ subst (λ (n : ℤ). Contains new (n, parent)) (ap (λ (p : ℤ × Oid). p.0) same)
            (more.taken parent (subst (λ (o : Oid). Contains links (edge_of parent label o)) (sym (ap (λ (p : ℤ × Oid). p.1) same)) led))
      ]

  pub led_all : (label : Label) (children rows : List (ℤ × Oid)) (i : ℕ) → length children ≤ i → LeadBy links label (take i children) rows
      → LeadBy links label children rows
  led_all label children rows i past so_far = subst (λ (l : List (ℤ × Oid)). LeadBy links label l rows) (take_all i children past) so_far

  -- no label is walked yet
  pub into_none : (word : List Label) (ends : List (ℤ × Oid)) (taken : ℕ) → taken ≡ 0 → LeadInto links (drop (length word - taken) word) ends ends
  into_none word ends taken none number end oid at walk =
      let all : length word - taken ≡ length word = omega (arith, none) in
      let rest : drop (length word - taken) word ≡ [] = ap (λ n. drop n word) all ∙ drop_whole word in
      let same : oid ≡ end = subst (λ (w : List Label). Walk links oid w end) rest walk in
      subst (λ (o : Oid). Contains ends (number, o)) (sym same) at
    where
      drop_whole : (xs : List Label) → drop (length xs) xs ≡ []
      drop_whole [] = refl
      drop_whole (x ∷ xs) = drop_whole xs

  -- one more, before those
  pub into_more : (word : List Label) (d : Label) (ends old read new : List (ℤ × Oid)) (taken : ℕ) → taken < length word → read ≡ old
      → LeadInto links (drop (length word - taken) word) ends old → LeadBy links (get_or word (length word - 1 - taken) d) read new
      → LeadInto links (drop (length word - (taken + 1)) word) ends new
  into_more word d ends old read new taken within same so_far more number end oid there walk =
      let place = length word - 1 - taken in
      let label = get_or word place d in
      let inside : place < length word = omega (arith, within) in
      let whole : drop place word ≡ label ∷ drop (place + 1) word = drop_more_read word place label inside (get_or_default word place d label inside) in
      let next : place + 1 ≡ length word - taken = omega (arith, within) in
      let here : length word - (taken + 1) ≡ place = omega (arith, within) in
      let parts : drop (length word - (taken + 1)) word ≡ label ∷ drop (length word - taken) word =
      ap (λ n. drop n word) here ∙ whole ∙ ap (λ n. label ∷ drop n word) next in
      let led : Walk links oid (label ∷ drop (length word - taken) word) end = subst (λ (w : List Label). Walk links oid w end) parts walk in
      let child : Contains read (number, led.0) =
      subst (λ (l : List (ℤ × Oid)). Contains l (number, led.0)) (sym same) (so_far number end led.0 there led.2) in
      more number led.0 oid child led.1

  pub into_all : (word : List Label) (ends rows : List (ℤ × Oid)) (taken : ℕ) → length word ≤ taken → LeadInto links (drop (length word - taken) word) ends rows
      → LeadInto links word ends rows
  into_all word ends rows taken past so_far =
      let none : length word - taken ≡ 0 = omega (arith, past) in
      subst (λ (n : ℕ). LeadInto links (drop n word) ends rows) none so_far
