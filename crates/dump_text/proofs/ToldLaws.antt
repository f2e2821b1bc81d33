-- It can be told of a tree whether it keeps the rules of dump texts, so it is the dump of a restorable database or bad.
use Rattle.std.proofs.Common.{◌≡◌, ◌≢◌, ◌⊎◌, inl, inr, Bool, ◌&&◌, not, ℕ, suc, ℤ, pos, negsuc, ◌<◌, ◌≤◌, int_eq, Less, Equal, Greater, List, [], ◌∷◌, length, map, All, AllPairs, Contains, refl, sym, subst, arith}
use Rattle.std.specs.Int.{w64, int_wrap}
use Rattle.std.specs.Prelude.{FitsSigned, nat_le}
use Rattle.std.specs.List.{AllByRecursion}
use Rattle.std.specs.List.Sorted.{IsStrictlySortedBy}
use Rattle.std.specs.Map.{keys_of}
use Rattle.std.specs.declared.cmp.Ordering.{Ordering}
use Rattle.std.proofs.lemmas.Bool.{cases_lt}
use Rattle.std.proofs.lemmas.Bool.Decides.{Decides-int_eq}
use Rattle.std.proofs.lemmas.Int.{SFits-int_wrap, int_wrap_fits}
use Rattle.std.proofs.lemmas.List.Elements.{All-nil, All-cons, All-head, All-tail}
use Rattle.std.proofs.lemmas.List.Kept.{AllPairs-cons}
use Rattle.lore_base.specs.Bytes.{bytes_cmp}
use Rattle.lore_base.specs.Names.{IsName, IsLabel, is_identifier, is_reserved}
use Rattle.lore_base.specs.Walks.{edge_cmp}
use Rattle.lore_base.specs.Databases.{Database, IsSized, IsLive, IsComplex, IsLinked, IsReached}
use Rattle.lore_base.proofs.ListLaws.{AllPairs-tail}
use Rattle.lore_base.proofs.WordLaws.{name_tested}
use Rattle.dump_text.specs.Types.{Oid, Edge, Value, Flag, Complex, LABELS, NAMES, OBJECTS, EDGES, NODES, NEXT_NUMBER, DumpTree}
use Rattle.lore_base.specs.declared.values.Value.TheVariants.{Whole, Chars}
use Rattle.lore_base.specs.declared.limits.TheConstants.{WORD_BYTES, TEXT_BYTES}
use Rattle.dump_text.specs.Dumps.{IsVersion}
use Rattle.dump_text.specs.Rules.{IsUpTo, AreNumbered, AreFew, AreFormed, numbered_edges, KeepsRules}
use Rattle.dump_text.specs.Restores.{IsDumpOf, IsBad}
use Rattle.lore_base.specs.Databases.{IsRestorable}
use Rattle.dump_text.specs.inside.RuleParts.{KeepsHead, KeepsLists, KeepsOrder, KeepsEdges, IsGraph}
use Rattle.dump_text.proofs.RuleLaws.{same_number, numbered_below, below_numbered, keeps_head, keeps_lists, keeps_edges, keeps_all, broken_bad, rules_tell}
use Rattle.lore_base.proofs.MemberLaws.{Contains-same}
use Rattle.lore_base.proofs.ToldLaws.{IsTold, told_by, told_same, told_not, told_both, told_either, told_member, told_some, told_oid, told_bytes, told_below, told_complex}
use Rattle.oem_changes.proofs.RootedLaws.{told_live}
use Rattle.oem_changes.proofs.ClosureLaws.{IsWalkedTo, told_walked}
use Rattle.dump_text.proofs.ReachLaws.{walked_reached}

-- ---- numbers, and what is told of each item of a list
told_most : (a b : ℕ) → IsTold (a ≤ b)
told_most a b = elim (cases_lt b a) [ inl above ↦ inr (λ h. omega (arith, above, h)) | inr most ↦ inl most ]

told_integer : (a b : ℤ) → IsTold (a ≡ b)
told_integer a b = told_by (int_eq a b) (Decides-int_eq a b)

told_fits : (number : ℤ) → IsTold (FitsSigned w64 number)
told_fits number =
    told_same (λ (same : int_wrap w64 number ≡ number). subst (FitsSigned w64) same (SFits-int_wrap w64 number)) (int_wrap_fits w64 number)
    (told_integer (int_wrap w64 number) number)

told_less : (o : Ordering) → IsTold (o ≡ Less)
told_less Less = inl refl
told_less Equal = inr (λ is. cc)
told_less Greater = inr (λ is. cc)

told_all : {X : Type 0} (P : X → Type 0) → ((x : X) → IsTold (P x)) → (xs : List X) → IsTold (All P xs)
told_all P told [] = inl (All-nil P)
told_all P told (x ∷ xs) =
    told_same (λ both. All-cons P x xs both.0 both.1) (λ (all : All P (x ∷ xs)). (All-head P x xs all, All-tail P x xs all))
    (told_both (told x) (told_all P told xs))

told_pairs : {X : Type 0} (R : X → X → Type 0) → ((a b : X) → IsTold (R a b)) → (xs : List X) → IsTold (AllPairs R xs)
told_pairs R told [] = inl (λ i j d lt len. absurd (omega (arith, len)))
told_pairs R told (x ∷ xs) =
    told_same (λ both. AllPairs-cons R x xs both.0 both.1)
    (λ (all : AllPairs R (x ∷ xs)). (λ k d low. all 0 (suc k) d (omega arith) (omega (arith, low)), AllPairs-tail R x xs all))
    (told_both (told_all (R x) (told x) xs) (told_pairs R told xs))

told_each : {K : Type 0} (P : K → Type 0) → ((k : K) → IsTold (P k)) → (ks : List K) → IsTold (AllByRecursion P ks)
told_each P told [] = inl tt
told_each P told (k ∷ ks) = told_both (told k) (told_each P told ks)

told_strict : (ks : List (List ℕ)) → IsTold (IsStrictlySortedBy bytes_cmp ks)
unfolding IsStrictlySortedBy
told_strict [] = inl tt
told_strict (k ∷ ks) = told_both (told_each (λ other. bytes_cmp k other ≡ Less) (λ other. told_less (bytes_cmp k other)) ks) (told_strict ks)

-- ---- the rules in their parts
told_up_to : (greatest : ℕ) (value : ℤ) → IsTold (IsUpTo greatest value)
told_up_to greatest (pos number) =
    told_same (λ both. (number, refl, both.0, both.1))
    (λ (h : IsUpTo greatest (pos number)).
    let same : number ≡ h.0 = same_number number h.0 h.1 in
    (subst (λ (n : ℕ). 1 ≤ n) (sym same) h.2, subst (λ (n : ℕ). n ≤ greatest) (sym same) h.3))
    (told_both (told_most 1 number) (told_most number greatest))
told_up_to greatest (negsuc number) = inr (λ h. let is = h.1 in cc)

told_name : (word : List ℕ) → IsTold (IsName word)
told_name word = told_by (is_identifier word && (not (is_reserved word) && nat_le (length word) WORD_BYTES)) (name_tested word)

told_label : (text : List ℕ) → IsTold (IsLabel text)
told_label text = told_both (told_most 1 (length text)) (told_most (length text) WORD_BYTES)

told_sized : (value : Value) → IsTold (IsSized value)
told_sized (Whole number) = told_fits number
told_sized (Chars text) = told_most (length text) TEXT_BYTES
told_sized (Flag flag) = inl tt
told_sized Complex = inl tt

told_no_flag : (value : Value) → IsTold ((flag : Bool) → value ≢ Flag flag)
told_no_flag (Whole number) = inl (λ flag same. cc)
told_no_flag (Chars text) = inl (λ flag same. cc)
told_no_flag (Flag other) = inr (λ none. none other refl)
told_no_flag Complex = inl (λ flag same. cc)

told_complex_in : (objects : List (Oid × Value)) (oid : Oid) → IsTold (IsComplex objects oid)
told_complex_in objects oid =
    told_same
    (λ found. Contains-same objects found.0 (oid, Complex) (λ i. (found.2.0 i, found.2.1 i)) found.1)
    (λ (at : IsComplex objects oid). ((oid, Complex), at, (refl, refl)))
    (told_some (λ (o : Oid × Value). (o.0 ≡ oid) × (o.1 ≡ Complex)) (λ o. told_both (told_oid o.0 oid) (told_complex o.1)) objects)

told_linked : (objects : List (Oid × Value)) (edge : Edge) → IsTold (IsLinked objects edge)
told_linked objects edge =
    told_same (λ both. record { parent = both.0; child = both.1 }) (λ (h : IsLinked objects edge). (h.parent, h.child))
    (told_both (told_complex_in objects edge.parent) (told_live objects edge.child))

told_reached : (names : List (List ℕ × Oid)) (edges : List Edge) (oid : Oid) → IsTold (IsReached names edges oid)
told_reached names edges oid =
    let starts = map (λ (entry : List ℕ × Oid). entry.1) names in
    let reached = walked_reached edges names oid in
    told_same (λ (walked : IsWalkedTo edges starts oid). reached.0 (walked.start, walked.word, walked.starts_there, walked.walked))
    (λ (is : IsReached names edges oid).
    let walked = reached.1 is in
    record { start = walked.0; word = walked.1; starts_there = walked.2; walked = walked.3 })
    (told_walked edges starts oid)

module _ (tree : DumpTree) where
  told_version : IsTold (IsVersion tree)
  told_version =
      told_either (told_integer tree.version (pos 2)) (told_both (told_integer tree.version (pos 1))
      (told_all (λ (object : Oid × Value). (flag : Bool) → object.1 ≢ Flag flag) (λ object. told_no_flag object.1) tree.objects))

  told_head : IsTold (KeepsHead tree)
  told_head =
      told_same (λ all. record { version = all.0; next = all.1.0; nodes = all.1.1 }) (λ (h : KeepsHead tree). (h.version, (h.next, h.nodes)))
      (told_both told_version (told_both (told_up_to NEXT_NUMBER tree.next) (told_up_to NODES tree.nodes)))

  told_few : IsTold (AreFew tree)
  told_few =
      told_same (λ all. record { labels = all.0; names = all.1.0; objects = all.1.1.0; edges = all.1.1.1 })
      (λ (h : AreFew tree). (h.labels, (h.names, (h.objects, h.edges))))
      (told_both (told_most (length tree.labels) LABELS) (told_both (told_most (length tree.names) NAMES)
      (told_both (told_most (length tree.objects) OBJECTS) (told_most (length tree.edges) EDGES))))

  told_formed : IsTold (AreFormed tree)
  told_formed =
      told_same (λ all. record { labels = all.0; names = all.1.0; values = all.1.1 }) (λ (h : AreFormed tree). (h.labels, (h.names, h.values)))
      (told_both (told_all IsLabel told_label tree.labels)
      (told_both (told_all (λ (entry : List ℕ × Oid). IsName entry.0) (λ entry. told_name entry.0) tree.names)
      (told_all (λ (object : Oid × Value). IsSized object.1) (λ object. told_sized object.1) tree.objects)))

  told_numbered : IsUpTo NEXT_NUMBER tree.next → IsTold (AreNumbered tree)
  told_numbered next =
      told_same (λ both. numbered_below tree next.0 next.1 both.0 both.1) (λ (h : AreNumbered tree). (h.ascend, below_numbered tree next.0 next.1 h))
      (told_both (told_pairs (λ (a b : Oid × Value). a.0.0 < b.0.0) (λ a b. told_below a.0.0 b.0.0) tree.objects)
      (told_all (λ (object : Oid × Value). (1 ≤ object.0.0) × (object.0.0 < next.0)) (λ object. told_both (told_most 1 object.0.0) (told_below object.0.0 next.0)) tree.objects))

  told_order : IsUpTo NEXT_NUMBER tree.next → IsTold (KeepsOrder tree)
  told_order next =
      told_same (λ all. record { names = all.0; objects = all.1.0; named = all.1.1 }) (λ (h : KeepsOrder tree). (h.names, (h.objects, h.named)))
      (told_both (told_strict (keys_of tree.names)) (told_both (told_numbered next)
      (told_all (λ (entry : List ℕ × Oid). IsLive tree.objects entry.1) (λ entry. told_live tree.objects entry.1) tree.names)))

  told_lists : IsUpTo NEXT_NUMBER tree.next → IsTold (KeepsLists tree)
  told_lists next =
      told_same (λ all. record { few = all.0; formed = all.1.0; order = all.1.1 }) (λ (h : KeepsLists tree). (h.few, (h.formed, h.order)))
      (told_both told_few (told_both told_formed (told_order next)))

  told_graph : IsTold (IsGraph tree)
  told_graph =
      let edges = numbered_edges tree in
      told_same (λ all. record { edges = all.0; linked = all.1.0; reached = all.1.1 }) (λ (h : IsGraph tree). (h.edges, (h.linked, h.reached)))
      (told_both (told_pairs (λ (a b : Edge). edge_cmp a b ≡ Less) (λ a b. told_less (edge_cmp a b)) edges)
      (told_both (told_all (IsLinked tree.objects) (told_linked tree.objects) edges)
      (told_all (λ (object : Oid × Value). IsReached tree.names edges object.0) (λ object. told_reached tree.names edges object.0) tree.objects)))

  told_edges : IsTold (KeepsEdges tree)
  told_edges =
      told_same (λ all. record { labels = all.0; labelled = all.1.0; graph = all.1.1 }) (λ (h : KeepsEdges tree). (h.labels, (h.labelled, h.graph)))
      (told_both (told_pairs (λ (a b : List ℕ). a ≢ b) (λ a b. told_not (told_bytes a b)) tree.labels)
      (told_both (told_all (λ (entry : Oid × List ℕ × Oid). Contains tree.labels entry.1) (λ entry. told_member told_bytes tree.labels entry.1) tree.edges) told_graph))

  told_keeps : IsTold (KeepsRules tree)
  told_keeps = elim told_head [
    | inr none ↦ inr (λ keeps. none (keeps_head tree keeps))
    | inl head ↦ told_same (λ both. keeps_all tree head both.0 both.1) (λ (keeps : KeepsRules tree). (keeps_lists tree keeps, keeps_edges tree keeps))
        (told_both (told_lists head.next) told_edges)
  ]

pub dump_or_bad : (tree : DumpTree) → ((db : Database) × IsDumpOf tree db × IsRestorable db) ⊎ IsBad tree
dump_or_bad tree = elim (told_keeps tree) [
  | inl keeps ↦ inl ((rules_tell tree).0 keeps)
  | inr breaks ↦ inr (broken_bad tree breaks)
]
