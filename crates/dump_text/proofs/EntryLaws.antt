-- Labels, edges and names of a dump text, read one after another.
use Rattle.std.proofs.Common.{◌≡◌, ◌≢◌, ℕ, ◌+◌, ◌<◌, List, [], ◌∷◌, ◌++◌, length, get_or, take, drop, map, Some, slice_get, AllPairs, Contains, sym, ap, ◌∙◌, subst, arith, length-take}
use Rattle.std.specs.BTreeMap.{insert_entry}
use Rattle.std.proofs.lemmas.List.{drop_more, get_or-take}
use Rattle.std.proofs.lemmas.Option.{slice_get-get_or, slice_get_within, get_or_from_slice_get}
use Rattle.list_laws.proofs.PartLaws.{take_more_read, map_more_read}
use Rattle.oem_labels.proofs.PlaceLaws.{label_in-at}
use Rattle.lore_base.specs.Bytes.{bytes_cmp}
use Rattle.lore_base.specs.inside.NameTables.{names_after}
use Rattle.lore_base.specs.Walks.{edge_of}
use Rattle.oem_labels.proofs.TextSetLaws.{apart_push}
use Rattle.dump_text.specs.Types.{Oid, Label, Edge}
use Rattle.dump_text.specs.Rules.{numbered_edge}

-- ---- labels
module _ (texts table : List (List ℕ)) (i : ℕ) (text : List ℕ) (low : i < length texts) (is : text ≡ get_or texts i text) (same : table ≡ take i texts) where
  -- a text that is found in the table stands twice
  pub found_twice : (label : Label) → slice_get table label.0 ≡ Some text → AllPairs (λ a b. a ≢ b) texts → ⊥
  found_twice label found apart =
      let there : slice_get (take i texts) label.0 ≡ Some text = subst (λ (l : List (List ℕ)). slice_get l label.0 ≡ Some text) same found in
      let within = slice_get_within (take i texts) label.0 text there in
      let short : label.0 < i = omega (arith, within, length-take i texts) in
      let read = get_or_from_slice_get (take i texts) label.0 text text there in
      apart label.0 i text short low (sym (get_or-take i texts label.0 text short) ∙ read ∙ is)

  -- one that isn't is apart from those before it
  pub one_apart : ((label : Label) → slice_get table label.0 ≢ Some text) → AllPairs (λ a b. a ≢ b) (take i texts)
      → AllPairs (λ a b. a ≢ b) (take (i + 1) texts)
  one_apart none apart =
      subst (AllPairs (λ a b. a ≢ b)) (sym (take_more_read texts i text low is))
      (apart_push (take i texts) text apart
      (λ k there. none (record { 0 = k }) (subst (λ (l : List (List ℕ)). slice_get l k ≡ Some text) (sym same) there)))

-- ---- edges
pub has_label : (labels : List (List ℕ)) (label : Label) (text : List ℕ) → slice_get labels label.0 ≡ Some text → Contains labels text
has_label labels label text found = (label.0, slice_get_within labels label.0 text found, get_or_from_slice_get labels label.0 text text found)

pub no_label : (labels : List (List ℕ)) (text : List ℕ) → ((label : Label) → slice_get labels label.0 ≢ Some text) → Contains labels text → ⊥
no_label labels text none at = none (record { 0 = at.0 }) (slice_get-get_or labels at.0 text at.1 ∙ ap (λ (t : List ℕ). Some t) at.2)

pub one_edge : (labels : List (List ℕ)) → AllPairs (λ a b. a ≢ b) labels → (entries : List (Oid × List ℕ × Oid)) (i : ℕ) (entry : Oid × List ℕ × Oid)
    → i < length entries → entry ≡ get_or entries i entry → (edges new : List Edge) (label : Label) → slice_get labels label.0 ≡ Some entry.1
    → edges ≡ map (numbered_edge labels) (take i entries) → new ≡ edges ++ edge_of entry.0 label entry.2 ∷ []
    → new ≡ map (numbered_edge labels) (take (i + 1) entries)
one_edge labels distinct entries i entry low is edges new label found so_far pushed =
    pushed ∙ ap (λ (l : List Edge). l ++ edge_of entry.0 label entry.2 ∷ []) so_far
    ∙ ap (λ (l : Label). map (numbered_edge labels) (take i entries) ++ edge_of entry.0 l entry.2 ∷ []) (label_in-at labels label entry.1 distinct found)
    ∙ sym (map_more_read (numbered_edge labels) entries i entry low is)

-- ---- names
-- the names that come, bound one after another
pub name_more : (entries : List (List ℕ × Oid)) (i : ℕ) (entry : List ℕ × Oid) → i < length entries → entry ≡ get_or entries i entry
    → (names new all : List (List ℕ × Oid)) (copy : List ℕ) → new ≡ insert_entry bytes_cmp names copy entry.1 → copy ≡ entry.0
    → names_after names (drop i entries) ≡ all → names_after new (drop (i + 1) entries) ≡ all
name_more entries i entry low is names new all copy bound copied so_far =
    ap (λ (n : List (List ℕ × Oid)). names_after n (drop (i + 1) entries)) (bound ∙ ap (λ (t : List ℕ). insert_entry bytes_cmp names t entry.1) copied)
    ∙ ap (λ (e : List ℕ × Oid). names_after names (e ∷ drop (i + 1) entries)) is
    ∙ ap (λ (l : List (List ℕ × Oid)). names_after names l) (sym (drop_more entries i entry low)) ∙ so_far
