-- Names once changes are made, and the objects of names that they bind anew or take away.
use Rattle.std.proofs.Common.{◌≡◌, ◌↔◌, inl, inr, ℕ, List, [], ◌∷◌, ◌++◌, Option, Some, None, is_some, true≢false, Contains, refl, sym, ap, subst, ◌∙◌}
use Rattle.std.specs.Map.{keys_of}
use Rattle.std.specs.Option.{option_or, option_to_list}
use Rattle.std.proofs.lemmas.List.Elements.{Contains-append_left, Contains-append_right, Contains-append_cases}
use Rattle.lore_base.specs.Types.{Oid, Changes}
use Rattle.lore_base.specs.Names.{IsNameTable, object_of}
use Rattle.lore_base.specs.ChangeSets.{IsBound, IsRenamed, NamesThen}
use Rattle.lore_base.specs.inside.NameTables.{names_after, names_without, found_objects}
use Rattle.lore_lists.proofs.MemberLaws.{Contains-none, Contains-head, Contains-tail, Contains-cases, Contains-same}
use Rattle.lore_base.proofs.NameLaws.{bound_found, found_bound, object_of-names_after, left_found, found_left, IsNameTable-names_after, IsNameTable-names_without}

some_once : {X : Type 0} {x y : X} → Some x ≡ Some y → x ≡ y
some_once same = cc

module _ (names : List (List ℕ × Oid)) (changes : Changes) (table : IsNameTable names) (news : IsNameTable changes.named) where
  abbrev left : List (List ℕ × Oid)
  left = names_without names changes.unnamed

  abbrev then : List (List ℕ × Oid)
  then = names_after left changes.named

  then_table : IsNameTable then
  then_table = IsNameTable-names_after left changes.named (IsNameTable-names_without names changes.unnamed table)

  -- an entry then is bound by the changes, or stays
  then_is : (name : List ℕ) (oid : Oid) (o : Option Oid) → object_of changes.named name ≡ o → option_or o (object_of left name) ≡ Some oid
      → NamesThen names changes (name, oid)
  then_is name oid (Some new) is h = inl (found_bound changes.named name oid (is ∙ h))
  then_is name oid None is h =
      let stays = left_found names changes.unnamed name oid table h in
      inr (
        found_bound names name oid stays.0,
        λ renamed. elim renamed [
          | inl bound ↦ true≢false (ap is_some (sym (bound_found changes.named name bound.0 news bound.1) ∙ is))
          | inr gone ↦ stays.1 gone
        ],
      )

  stays_found : (name : List ℕ) (oid : Oid) (o : Option Oid) → object_of changes.named name ≡ o → Contains names (name, oid)
      → (¬ IsRenamed changes name) → option_or o (object_of left name) ≡ Some oid
  stays_found name oid (Some new) is at kept = absurd (kept (inl (new, found_bound changes.named name new is)))
  stays_found name oid None is at kept =
      found_left names changes.unnamed name oid table (bound_found names name oid table at) (λ gone. kept (inr gone))

  then_members : (entry : List ℕ × Oid) → Contains then entry ↔ NamesThen names changes entry
  then_members entry =
      let found = object_of-names_after left changes.named entry.0 news in (
        λ at. then_is entry.0 entry.1 (object_of changes.named entry.0) refl (sym found ∙ bound_found then entry.0 entry.1 then_table at),
        λ h. elim h [
          | inl new ↦ found_bound then entry.0 entry.1
              (found ∙ ap (λ (o : Option Oid). option_or o (object_of left entry.0)) (bound_found changes.named entry.0 entry.1 news new))
          | inr old ↦ found_bound then entry.0 entry.1 (found ∙ stays_found entry.0 entry.1 (object_of changes.named entry.0) refl old.0 old.1)
        ],
      )

  -- a copy of the names that loses some and gets others
  module _ (copy kept after : List (List ℕ × Oid)) (copied : copy ≡ names) (taken : kept ≡ names_without copy changes.unnamed)
      (bound : after ≡ names_after kept changes.named) where
    is_then : after ≡ then
    is_then = bound ∙ ap (λ (l : List (List ℕ × Oid)). names_after l changes.named)
        (taken ∙ ap (λ (l : List (List ℕ × Oid)). names_without l changes.unnamed) copied)

    pub changed_table : IsNameTable after
    changed_table = subst (λ (l : List (List ℕ × Oid)). IsNameTable l) (sym is_then) then_table

    pub changed_members : (entry : List ℕ × Oid) → Contains after entry ↔ NamesThen names changes entry
    changed_members entry = subst (λ (l : List (List ℕ × Oid)). Contains l entry ↔ NamesThen names changes entry) (sym is_then) (then_members entry)

-- ---- the objects of words that are names
in_option : {X : Type 0} (o : Option X) (x : X) → Contains (option_to_list o) x → o ≡ Some x
in_option None x at = absurd (Contains-none x at)
in_option (Some y) x at = elim (Contains-cases y [] x at) [ inl same ↦ ap Some same | inr none ↦ absurd (Contains-none x none) ]

pub found_is : (names : List (List ℕ × Oid)) (words : List (List ℕ)) (oid : Oid) → Contains (found_objects names words) oid
    → (word : List ℕ) × Contains words word × (object_of names word ≡ Some oid)
found_is names [] oid at = absurd (Contains-none oid at)
found_is names (word ∷ others) oid at = elim (Contains-append_cases (option_to_list (object_of names word)) (found_objects names others) oid at) [
  | inl here ↦ (word, Contains-head word others, in_option (object_of names word) oid here)
  | inr behind ↦ (let later = found_is names others oid behind in (later.0, Contains-tail word others later.0 later.1, later.2))
]

pub is_found : (names : List (List ℕ × Oid)) (words : List (List ℕ)) (name : List ℕ) (oid : Oid) → Contains words name
    → object_of names name ≡ Some oid → Contains (found_objects names words) oid
is_found names [] name oid at is = absurd (Contains-none name at)
is_found names (word ∷ others) name oid at is = elim (Contains-cases word others name at) [
  | inl same ↦ Contains-append_left (option_to_list (object_of names word)) (found_objects names others) oid
      (subst (λ (o : Option Oid). Contains (option_to_list o) oid) (sym (ap (object_of names) same ∙ is)) (Contains-head oid []))
  | inr behind ↦ Contains-append_right (option_to_list (object_of names word)) (found_objects names others) oid (is_found names others name oid behind is)
]

key_bound : (names : List (List ℕ × Oid)) (name : List ℕ) → Contains (keys_of names) name → IsBound names name
key_bound [] name at = absurd (Contains-none name at)
key_bound (entry ∷ others) name at = elim (Contains-cases entry.0 (keys_of others) name at) [
  | inl same ↦ (entry.1, Contains-same (entry ∷ others) entry (name, entry.1) (ap (λ (n : List ℕ). (n, entry.1)) same) (Contains-head entry others))
  | inr behind ↦ (let later = key_bound others name behind in (later.0, Contains-tail entry others (name, later.0) later.1))
]

bound_key : (names : List (List ℕ × Oid)) (name : List ℕ) → IsBound names name → Contains (keys_of names) name
bound_key [] name bound = absurd (Contains-none (name, bound.0) bound.1)
bound_key (entry ∷ others) name bound = elim (Contains-cases entry others (name, bound.0) bound.1) [
  | inl same ↦ Contains-same (keys_of (entry ∷ others)) entry.0 name (ap (λ (e : List ℕ × Oid). e.0) same) (Contains-head entry.0 (keys_of others))
  | inr behind ↦ Contains-tail entry.0 (keys_of others) name (bound_key others name (bound.0, behind))
]

-- the objects that the names have which are bound anew or taken away
pub renamed_members : (names : List (List ℕ × Oid)) (changes : Changes) (oids : List Oid) → IsNameTable names
    → oids ≡ found_objects names (keys_of changes.named) ++ found_objects names changes.unnamed
    → (oid : Oid) → Contains oids oid ↔ ((name : List ℕ) × Contains names (name, oid) × IsRenamed changes name)
renamed_members names changes oids table is oid =
    let bound = found_objects names (keys_of changes.named) in
    let gone = found_objects names changes.unnamed in (
      λ at. elim (Contains-append_cases bound gone oid (subst (λ (l : List Oid). Contains l oid) is at)) [
        | inl here ↦ (let f = found_is names (keys_of changes.named) oid here in (f.0, found_bound names f.0 oid f.2, inl (key_bound changes.named f.0 f.1)))
        | inr there ↦ (let f = found_is names changes.unnamed oid there in (f.0, found_bound names f.0 oid f.2, inr f.1))
      ],
      λ h. subst (λ (l : List Oid). Contains l oid) (sym is) (elim h.2 [
        | inl anew ↦ Contains-append_left bound gone oid
            (is_found names (keys_of changes.named) h.0 oid (bound_key changes.named h.0 anew) (bound_found names h.0 oid table h.1))
        | inr away ↦ Contains-append_right bound gone oid (is_found names changes.unnamed h.0 oid away (bound_found names h.0 oid table h.1))
      ]),
    )
