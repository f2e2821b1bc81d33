-- Names as facts: taken from a table one after another, and bound one after another.
use Rattle.std.proofs.Common.{◌≡◌, ℕ, ◌+◌, ◌<◌, ◌≤◌, List, [], ◌∷◌, ◌++◌, length, map, get_or, take, refl, sym, ap, ◌∙◌, arith}
use Rattle.std.specs.Map.{keys_of}
use Rattle.std.specs.BTreeMap.{insert_entry}
use Rattle.std.proofs.lemmas.List.{take_more, take_all, get_or-map, length-map}
use Rattle.lore_base.specs.Bytes.{bytes_cmp}
use Rattle.lore_base.specs.Names.{IsNameTable}
use Rattle.lore_base.specs.inside.NameTables.{names_after}
use Rattle.lore_base.proofs.NameLaws.{names_after-none}
use Rattle.doem_history.specs.Types.{Oid}

-- the first names of a table
pub record AreTaken (facts names : List (List ℕ × Oid)) (index place : ℕ) : Type 0 where
  pub taken : facts ≡ take index names
  pub count : place ≡ index

pub taken_more : (facts more names : List (List ℕ × Oid)) (index place : ℕ) (texts : List (List ℕ)) (oids : List Oid) (text copy : List ℕ) (oid d : Oid)
    → AreTaken facts names index place → texts ≡ keys_of names → oids ≡ map (λ entry. entry.1) names → index < length texts
    → text ≡ get_or texts index text → copy ≡ text → oid ≡ get_or oids place d → more ≡ facts ++ (copy, oid) ∷ [] → AreTaken more names (index + 1) (place + 1)
taken_more facts more names index place texts oids text copy oid d so_far texts_are oids_are within text_is copied oid_is pushed =
    let lt : index < length names = omega (arith, within, ap (λ (l : List (List ℕ)). length l) texts_are, length-map names (λ (e : List ℕ × Oid). e.0)) in
    let name : copy ≡ (get_or names index (copy, oid)).0 = copied ∙ text_is ∙ ap (λ (l : List (List ℕ)). get_or l index text) texts_are
    ∙ get_or-map (λ (e : List ℕ × Oid). e.0) names index (copy, oid) text lt in
    let object : oid ≡ (get_or names index (copy, oid)).1 = oid_is ∙ ap (λ (l : List Oid). get_or l place d) oids_are
    ∙ ap (λ k. get_or (map (λ (e : List ℕ × Oid). e.1) names) k d) so_far.count
    ∙ get_or-map (λ (e : List ℕ × Oid). e.1) names index (copy, oid) d lt in
    let pair : (copy, oid) ≡ get_or names index (copy, oid) = λ i. (name i, object i) in
    record {
      taken = pushed ∙ ap (λ (l : List (List ℕ × Oid)). l ++ (copy, oid) ∷ []) so_far.taken ∙ ap (λ (e : List ℕ × Oid). take index names ++ e ∷ []) pair
          ∙ sym (take_more names index (copy, oid) lt);
      count = ap (λ n. n + 1) so_far.count;
    }

pub taken_all : (facts names : List (List ℕ × Oid)) (index place : ℕ) (texts : List (List ℕ)) → AreTaken facts names index place → texts ≡ keys_of names → length texts ≤ index → facts ≡ names
taken_all facts names index place texts so_far texts_are over =
    so_far.taken ∙ take_all index names (omega (arith, over, ap (λ (l : List (List ℕ)). length l) texts_are, length-map names (λ (e : List ℕ × Oid). e.0)))

names_after-push : (names more : List (List ℕ × Oid)) (entry : List ℕ × Oid) → names_after names (more ++ entry ∷ []) ≡ insert_entry bytes_cmp (names_after names more) entry.0 entry.1
names_after-push names [] entry = refl
names_after-push names (first ∷ more) entry = names_after-push (insert_entry bytes_cmp names first.0 first.1) more entry

pub bound_more : (table then facts : List (List ℕ × Oid)) (index : ℕ) (fact : List ℕ × Oid) (copy : List ℕ) → table ≡ names_after [] (take index facts) → index < length facts
    → fact ≡ get_or facts index fact → copy ≡ fact.0 → then ≡ insert_entry bytes_cmp table copy fact.1 → then ≡ names_after [] (take (index + 1) facts)
bound_more table then facts index fact copy so_far within is copied bound =
    bound ∙ ap (λ (t : List (List ℕ × Oid)). insert_entry bytes_cmp t copy fact.1) so_far ∙ ap (λ name. insert_entry bytes_cmp (names_after [] (take index facts)) name fact.1) copied
    ∙ sym (names_after-push [] (take index facts) fact)
    ∙ ap (λ (e : List ℕ × Oid). names_after [] (take index facts ++ e ∷ [])) is
    ∙ ap (λ (l : List (List ℕ × Oid)). names_after [] l) (sym (take_more facts index fact within))

pub bound_all : (table facts : List (List ℕ × Oid)) (index : ℕ) → IsNameTable facts → table ≡ names_after [] (take index facts) → length facts ≤ index → table ≡ facts
bound_all table facts index is so_far over =
    so_far ∙ ap (λ (l : List (List ℕ × Oid)). names_after [] l) (take_all index facts over) ∙ names_after-none facts is
