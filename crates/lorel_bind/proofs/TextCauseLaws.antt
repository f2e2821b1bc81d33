-- What the program notes of a text, and the causes of refusal that it tells by that.
use Rattle.std.proofs.Common.{◌≡◌, ◌≢◌, ◌↔◌, ◌⊎◌, inl, inr, ℕ, ◌-◌, ◌^◌, ◌<◌, ◌≤◌, min, Bool, true, false, not, ◌||◌, true≢false, if◌then◌else◌, List, [], ◌∷◌, ◌++◌, length, get_or, None, IsTrue, AllPairs, Contains, Bor, subst, refl, sym, ap, ◌∙◌, arith, length-append}
use Rattle.std.specs.List.{list_any}
use Rattle.std.specs.Str.{bytes_eq}
use Rattle.std.specs.Cmp.Lexicographic.{nat_list_eq_equiv}
use Rattle.std.proofs.lemmas.Bool.{or_right}
use Rattle.std.proofs.lemmas.List.{map-append, get_or_append_left, get_or_push}
use Rattle.std.proofs.lemmas.List.Elements.{Contains-get_or, Contains-append_left, Contains-push, Contains-push_cases}
use Rattle.std.proofs.lemmas.List.Quantifiers.{all_pairs_push}
use Rattle.std.proofs.lemmas.Map.Views.{list_any-from_Contains}
use Rattle.std.proofs.lemmas.Slice.Eq.{bytes_eq-Decides}
use Rattle.indexmap.proofs.CallerLemmas.{Contains-list_any}
use Rattle.lore_base.specs.Names.{object_of}
use Rattle.lore_base.proofs.MemberLaws.{Contains-none, Contains-same}
use Rattle.list_laws.proofs.PairLaws.{AllPairs-front}
use Rattle.lorel_trees.specs.Trees.{SelectTree}
use Rattle.lorel_bind.specs.Types.{Oid, ITEMS, LEAVES}
use Rattle.lorel_ranges.specs.Places as p
use Rattle.lorel_ranges.specs.Places.{named}
use Rattle.lorel_bind.specs.Refusals.{StartsNowhere, HasUnknownName, HasUnknownVariable, HasDuplicate, HasTooMany, IsRefusedBy, leaves_in}
use Rattle.lorel_ranges.specs.Texts.{text_places, ranged_identifiers}
use Rattle.lorel_bind.specs.declared.faults.BindFault.TheVariants as fault
use Rattle.lorel_ranges.specs.Views.{texts}
use Rattle.lorel_ranges.specs.Readings.{IsTextOf}
use Rattle.lorel_bind.specs.inside.Causes.{places_of, ranged_of, StartsAmong, StartsUnranged, StartsRanged, HasNoted, HasMet, PassesText}
use Rattle.lorel_bind.specs.declared.causes.Ranged.{Ranged}
use Rattle.lorel_bind.specs.declared.causes.Unknown.{Unknown}
use Rattle.lorel_ranges.specs.declared.text.Text.{Text}

-- ---- identifiers that are ranged
any_text : (keys : List (Bor (List ℕ))) (text : List ℕ) → list_any (λ (key : Bor (List ℕ)). bytes_eq text key.now) keys ≡ list_any (bytes_eq text) (texts keys)
any_text [] text = refl
any_text (key ∷ keys) text = ap (λ b. bytes_eq text key.now || b) (any_text keys text)

pub found_text : (keys : List (Bor (List ℕ))) (text : List ℕ) → list_any (λ (key : Bor (List ℕ)). bytes_eq text key.now) keys ≡ true → Contains (texts keys) text
found_text keys text found = Contains-list_any bytes_eq (λ a b. (bytes_eq-Decides a b).0) (texts keys) text (sym (any_text keys text) ∙ found)

pub missed_text : (keys : List (Bor (List ℕ))) (text : List ℕ) → list_any (λ (key : Bor (List ℕ)). bytes_eq text key.now) keys ≡ false → Contains (texts keys) text → ⊥
missed_text keys text missed there =
    true≢false (sym (any_text keys text ∙ list_any-from_Contains nat_list_eq_equiv text (texts keys) there) ∙ missed)

apart_last : (xs : List (List ℕ)) (x : List ℕ) → AllPairs (λ a b. a ≢ b) (xs ++ x ∷ []) → Contains xs x → ⊥
apart_last xs x apart there =
    let last : length xs < length (xs ++ x ∷ []) = omega (arith, length-append xs (x ∷ [])) in
    apart there.0 (length xs) x there.1 last
    (get_or_append_left xs (x ∷ []) x there.0 there.1 ∙ there.2 ∙ sym (get_or_push xs x x (length xs) refl))

apart_more : (xs : List (List ℕ)) (x : List ℕ) → AllPairs (λ a b. a ≢ b) xs → (Contains xs x → ⊥) → AllPairs (λ a b. a ≢ b) (xs ++ x ∷ [])
apart_more xs x apart absent =
    all_pairs_push (λ a b. a ≢ b) xs x apart (λ k d low same. absent (Contains-same xs (get_or xs k d) x same (Contains-get_or xs k d low)))

-- no identifier is noted yet
pub HasNoted-none : (ranged : Ranged) → ranged.texts.keys ≡ [] → ranged.doubled ≡ false → HasNoted [] ranged
HasNoted-none ranged empty single = record {
  known = λ identifier. (
    (λ there. subst (λ l. Contains (texts l) identifier) empty there),
    (λ there. absurd (Contains-none identifier there)),
  );
  doubled = ((λ twice. absurd (true≢false (sym twice ∙ single))), (λ never. absurd (never (λ i j d before within. absurd (omega arith)))));
}

-- one identifier more, which was noted before or wasn't
pub HasNoted-push : (earlier : List (List ℕ)) (old new : Ranged) (key : Bor (List ℕ)) (first : Bool)
    → first ≡ not (list_any (λ (other : Bor (List ℕ)). bytes_eq key.now other.now) old.texts.keys)
    → new.texts.keys ≡ (if list_any (λ (other : Bor (List ℕ)). bytes_eq key.now other.now) old.texts.keys then old.texts.keys else old.texts.keys ++ key ∷ [])
    → new.doubled ≡ (old.doubled || not first) → HasNoted earlier old → HasNoted (earlier ++ key.now ∷ []) new
HasNoted-push earlier old new key first is keys doubled noted = by (list_any (λ (other : Bor (List ℕ)). bytes_eq key.now other.now) old.texts.keys) refl
  where
    by : (b : Bool) → list_any (λ (other : Bor (List ℕ)). bytes_eq key.now other.now) old.texts.keys ≡ b → HasNoted (earlier ++ key.now ∷ []) new
    by true e =
        let there = (noted.known key.now).0 (found_text old.texts.keys key.now e) in
        let same : new.texts.keys ≡ old.texts.keys = keys ∙ ap (λ c. if c then old.texts.keys else old.texts.keys ++ key ∷ []) e in
        record {
          known = λ identifier. (
            (λ was. Contains-append_left earlier (key.now ∷ []) identifier ((noted.known identifier).0 (subst (λ l. Contains (texts l) identifier) same was))),
            (λ now. subst (λ l. Contains (texts l) identifier) (sym same) (elim (Contains-push_cases earlier key.now identifier now) [
              | inl was ↦ (noted.known identifier).1 was
              | inr here ↦ Contains-same (texts old.texts.keys) key.now identifier here (found_text old.texts.keys key.now e)
            ])),
          );
          doubled = (
            (λ twice apart. apart_last earlier key.now apart there),
            (λ never. doubled ∙ or_right old.doubled (not first) (ap not (is ∙ ap not e))),
          );
        }
    by false e =
        let absent = λ (there : Contains earlier key.now). missed_text old.texts.keys key.now e ((noted.known key.now).1 there) in
        let more : texts new.texts.keys ≡ texts old.texts.keys ++ key.now ∷ [] =
        ap texts (keys ∙ ap (λ c. if c then old.texts.keys else old.texts.keys ++ key ∷ []) e) ∙ map-append (λ (text : Bor (List ℕ)). text.now) old.texts.keys (key ∷ []) in
        let same : new.doubled ≡ old.doubled = doubled ∙ ap (λ c. old.doubled || not c) (is ∙ ap not e) ∙ unchanged old.doubled in
        record {
          known = λ identifier. (
            (λ now. elim (Contains-push_cases (texts old.texts.keys) key.now identifier (subst (λ l. Contains l identifier) more now)) [
              | inl was ↦ Contains-append_left earlier (key.now ∷ []) identifier ((noted.known identifier).0 was)
              | inr here ↦ Contains-same (earlier ++ key.now ∷ []) key.now identifier here (Contains-push earlier key.now)
            ]),
            (λ now. subst (λ l. Contains l identifier) (sym more) (elim (Contains-push_cases earlier key.now identifier now) [
              | inl was ↦ Contains-append_left (texts old.texts.keys) (key.now ∷ []) identifier ((noted.known identifier).1 was)
              | inr here ↦ Contains-same (texts old.texts.keys ++ key.now ∷ []) key.now identifier here (Contains-push (texts old.texts.keys) key.now)
            ])),
          );
          doubled = (
            (λ twice apart. noted.doubled.0 (sym same ∙ twice) (AllPairs-front (λ (a b : List ℕ). a ≢ b) earlier (key.now ∷ []) apart)),
            (λ never. same ∙ noted.doubled.1 (λ apart. never (apart_more earlier key.now apart absent))),
          );
        }
      where
        unchanged : (b : Bool) → (b || false) ≡ b
        unchanged true = refl
        unchanged false = refl

-- ---- what places start at
module _ (names : List (List ℕ × Oid)) (ranged : List (List ℕ)) (places : List p.Place) (place : p.Place) where
  among_more : (start : List ℕ) → StartsAmong names places start → StartsAmong names (places ++ place ∷ []) start
  among_more start h = (h.0, Contains-append_left places (place ∷ []) h.0 h.1, h.2, h.3)

  among_here : (start : List ℕ) → place.root ≡ named start → object_of names start ≡ None → StartsAmong names (places ++ place ∷ []) start
  among_here start is unnamed = (place, Contains-push places place, is, unnamed)

  among_cases : (start : List ℕ) → StartsAmong names (places ++ place ∷ []) start → StartsAmong names places start ⊎ ((place.root ≡ named start) × (object_of names start ≡ None))
  among_cases start h = elim (Contains-push_cases places place h.0 h.1) [
    | inl was ↦ inl (h.0, was, h.2, h.3)
    | inr here ↦ inr (ap (λ (each : p.Place). each.root) here ∙ h.2, h.3)
  ]

  module _ (old new : Unknown) (met : HasMet names ranged places old) where
    -- the place starts at a variable or a name
    pub HasMet-bound : new ≡ old → ((start : List ℕ) → place.root ≡ named start → object_of names start ≡ None → ⊥) → HasMet names ranged (places ++ place ∷ []) new
    HasMet-bound same bound = record {
      unranged = (
        (λ h. let was = met.unranged.0 (sym (ap (λ (u : Unknown). u.names) same) ∙ h) in (was.0, among_more was.0 was.1, was.2)),
        (λ h. elim (among_cases h.0 h.1) [ inl was ↦ ap (λ (u : Unknown). u.names) same ∙ met.unranged.1 (h.0, was, h.2) | inr here ↦ absurd (bound h.0 here.0 here.1) ]),
      );
      elsewhere = (
        (λ h. let was = met.elsewhere.0 (sym (ap (λ (u : Unknown). u.variables) same) ∙ h) in (was.0, among_more was.0 was.1, was.2)),
        (λ h. elim (among_cases h.0 h.1) [ inl was ↦ ap (λ (u : Unknown). u.variables) same ∙ met.elsewhere.1 (h.0, was, h.2) | inr here ↦ absurd (bound h.0 here.0 here.1) ]),
      );
    }

    module _ (start : List ℕ) (is : place.root ≡ named start) (unnamed : object_of names start ≡ None) where
      same_start : (other : List ℕ) → place.root ≡ named other → start ≡ other
      same_start other at = let both : named start ≡ named other = sym is ∙ at in cc

      -- it starts at an identifier that is ranged
      pub HasMet-ranged : new.names ≡ old.names → new.variables ≡ true → Contains ranged start → HasMet names ranged (places ++ place ∷ []) new
      HasMet-ranged same set there = record {
        unranged = (
          (λ h. let was = met.unranged.0 (sym same ∙ h) in (was.0, among_more was.0 was.1, was.2)),
          (λ h. elim (among_cases h.0 h.1) [
            | inl was ↦ same ∙ met.unranged.1 (h.0, was, h.2)
            | inr here ↦ absurd (h.2 (Contains-same ranged start h.0 (same_start h.0 here.0) there))
          ]),
        );
        elsewhere = ((λ h. (start, among_here start is unnamed, there)), (λ h. set));
      }

      -- or at one that isn't
      pub HasMet-unranged : new.variables ≡ old.variables → new.names ≡ true → (Contains ranged start → ⊥) → HasMet names ranged (places ++ place ∷ []) new
      HasMet-unranged same set absent = record {
        unranged = ((λ h. (start, among_here start is unnamed, absent)), (λ h. set));
        elsewhere = (
          (λ h. let was = met.elsewhere.0 (sym same ∙ h) in (was.0, among_more was.0 was.1, was.2)),
          (λ h. elim (among_cases h.0 h.1) [
            | inl was ↦ same ∙ met.elsewhere.1 (h.0, was, h.2)
            | inr here ↦ absurd (absent (Contains-same ranged h.0 start (sym (same_start h.0 here.0)) h.2))
          ]),
        );
      }

pub HasMet-none : (names : List (List ℕ × Oid)) (ranged : List (List ℕ)) (unknown : Unknown) → unknown.names ≡ false → unknown.variables ≡ false → HasMet names ranged [] unknown
HasMet-none names ranged unknown known bound = record {
  unranged = ((λ h. absurd (true≢false (sym h ∙ known))), (λ h. absurd (Contains-none h.1.0 h.1.1)));
  elsewhere = ((λ h. absurd (true≢false (sym h ∙ bound))), (λ h. absurd (Contains-none h.1.0 h.1.1)));
}

-- ---- the number of leaves
more_than : (bound n : ℕ) → bound < min (2 ^ 64 - 1) n → bound < n
more_than bound n h = omega arith

no_more_than : (n : ℕ) → min (2 ^ 64 - 1) n ≤ LEAVES → n ≤ LEAVES
no_more_than n h = omega arith

-- ---- the causes
module _ (names : List (List ℕ × Oid)) (query : SelectTree) (text : Text) (is : IsTextOf query text) where
  all_places : places_of text ≡ text_places query
  all_places = let from = is.from.places in let items = is.items.places in let conditions = is.conditions in cc

  pub many_items : ITEMS < text.item_count → HasTooMany query
  many_items many = let count = is.count in inr (inl (omega arith))

  pub few_items : text.item_count ≤ ITEMS → length query.items ≤ ITEMS
  few_items few = let count = is.count in omega arith

  pub many_leaves : LEAVES < min (2 ^ 64 - 1) (leaves_in (places_of text)) → HasTooMany query
  many_leaves many = inr (inr (subst (λ l. LEAVES < leaves_in l) all_places (more_than LEAVES (leaves_in (places_of text)) many)))

  pub few_leaves : min (2 ^ 64 - 1) (leaves_in (places_of text)) ≤ LEAVES → leaves_in (text_places query) ≤ LEAVES
  few_leaves few = subst (λ l. leaves_in l ≤ LEAVES) all_places (no_more_than (leaves_in (places_of text)) few)

  all_ranged : ranged_of text ≡ ranged_identifiers query
  all_ranged = let from = is.from.ranged in let conditions = is.ranged in cc

  module _ (ranged : Ranged) (noted : HasNoted (ranged_of text) ranged) where
    known : (identifier : List ℕ) → Contains (texts ranged.texts.keys) identifier ↔ Contains (ranged_identifiers query) identifier
    known identifier = subst (λ l. Contains (texts ranged.texts.keys) identifier ↔ Contains l identifier) all_ranged (noted.known identifier)

    tells_duplicate : IsTrue ranged.doubled ↔ HasDuplicate query
    tells_duplicate = subst (λ l. IsTrue ranged.doubled ↔ (AllPairs (λ a b. a ≢ b) l → ⊥)) all_ranged noted.doubled

    module _ (unknown : Unknown) (met : HasMet names (texts ranged.texts.keys) (places_of text) unknown) where
      tells_name : IsTrue unknown.names ↔ HasUnknownName names query
      tells_name =
          let at = subst (λ l. IsTrue unknown.names ↔ StartsUnranged names (texts ranged.texts.keys) l) all_places met.unranged in (
            (λ h. let was = at.0 h in (was.0, was.1, λ there. was.2 ((known was.0).1 there))),
            (λ h. at.1 (h.0, h.1, λ there. h.2 ((known h.0).0 there))),
          )

      tells_start : IsTrue unknown.variables ↔ ((start : List ℕ) × StartsNowhere names query start × Contains (ranged_identifiers query) start)
      tells_start =
          let at = subst (λ l. IsTrue unknown.variables ↔ StartsRanged names (texts ranged.texts.keys) l) all_places met.elsewhere in (
            (λ h. let was = at.0 h in (was.0, was.1, (known was.0).0 was.2)),
            (λ h. at.1 (h.0, h.1, (known h.0).1 h.2)),
          )

      absent : {P : Type 0} (test : Bool) → IsTrue test ↔ P → test ≡ false → P → ⊥
      absent test tells fails h = true≢false (sym (tells.1 h) ∙ fails)

      pub refused_name : unknown.names ≡ true → IsRefusedBy names query fault.UnknownName
      refused_name name = inl (tells_name.0 name, refl)

      module _ (no_name : unknown.names ≡ false) where
        refused_variable : HasUnknownVariable names query → IsRefusedBy names query fault.UnknownVariable
        refused_variable variable = inr (absent unknown.names tells_name no_name, inl (variable, refl))

        pub refused_start : unknown.variables ≡ true → IsRefusedBy names query fault.UnknownVariable
        refused_start variable = refused_variable (inl (tells_start.0 variable))

        pub refused_word : text.items.unknown ≡ true → IsRefusedBy names query fault.UnknownVariable
        refused_word word = refused_variable (inr (is.items.unknown.0 word))

        module _ (no_variable : unknown.variables ≡ false) (no_word : text.items.unknown ≡ false) where
          known_variable : HasUnknownVariable names query → ⊥
          known_variable (inl start) = absent unknown.variables tells_start no_variable start
          known_variable (inr word) = absent text.items.unknown is.items.unknown no_word word

          pub refused_duplicate : ranged.doubled ≡ true → IsRefusedBy names query fault.DuplicateVariable
          refused_duplicate doubled =
              inr (absent unknown.names tells_name no_name, inr (known_variable, inl (tells_duplicate.0 doubled, refl)))

          module _ (single : ranged.doubled ≡ false) where
            pub refused_many : HasTooMany query → IsRefusedBy names query fault.TooManyRanges
            refused_many many =
                inr (
                  absent unknown.names tells_name no_name,
                  inr (
                    known_variable,
                    inr (absent ranged.doubled tells_duplicate single, inl (many, refl)),
                  ),
                )

            pub passes_text : length query.items ≤ ITEMS → leaves_in (text_places query) ≤ LEAVES → PassesText names query
            passes_text items leaves = record {
              names_known = absent unknown.names tells_name no_name;
              variables_known = known_variable;
              ranged_once = absent ranged.doubled tells_duplicate single;
              few_items = items;
              few_leaves = leaves;
            }
