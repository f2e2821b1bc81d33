-- The lines of a dump as they are put one behind the other, each with its end.
use Rattle.std.proofs.Common.{◌≡◌, ℕ, ◌+◌, ◌<◌, List, ◌++◌, length, map, take, get_or, sym, ap, ◌∙◌, append_assoc}
use Rattle.std.proofs.lemmas.Grind.{flat_map-append}
use Rattle.std.proofs.lemmas.List.{map_more, flat_map_more, get_or-map}
use Rattle.dump_text.specs.Types.{Oid}
use Rattle.dump_text.specs.Dumps.{ended, ended_lines}

-- lines behind those before them, and the rest of the text
pub goes_on : (before after whole : List ℕ) (part rest : List (List ℕ)) → after ≡ before ++ ended_lines part
    → whole ≡ after ++ ended_lines rest → whole ≡ before ++ ended_lines (part ++ rest)
goes_on before after whole part rest this others =
    others ∙ ap (λ l. l ++ ended_lines rest) this ∙ append_assoc before (ended_lines part) (ended_lines rest)
    ∙ ap (λ l. before ++ l) (sym (flat_map-append ended part rest))

-- one line more
pub lines_more : {X : Type 0} (f : X → List ℕ) (old before after : List ℕ) (xs : List X) (i : ℕ) (x : X) (line : List ℕ)
    → i < length xs → line ≡ f (get_or xs i x) → after ≡ before ++ ended line → before ≡ old ++ ended_lines (map f (take i xs))
    → after ≡ old ++ ended_lines (map f (take (i + 1) xs))
lines_more f old before after xs i x line low is step so_far =
    step ∙ ap (λ y. before ++ ended y) is ∙ ap (λ l. l ++ ended (f (get_or xs i x))) so_far
    ∙ flat_map_more ended old (map f (take i xs)) (f (get_or xs i x))
    ∙ ap (λ l. old ++ ended_lines l) (sym (map_more f xs i x low))

-- a name and its object stand where they do in two lists
pub name_here : (names : List (List ℕ × Oid)) (texts : List (List ℕ)) (oids : List Oid) (i : ℕ) (text other : List ℕ) (oid none : Oid)
    → texts ≡ map (λ entry. entry.0) names → oids ≡ map (λ entry. entry.1) names → i < length names
    → text ≡ get_or texts i other → oid ≡ get_or oids i none
    → (text, oid) ≡ get_or names i (text, oid)
name_here names texts oids i text other oid none keys objects low here there =
    let key : text ≡ (get_or names i (text, oid)).0 =
    here ∙ ap (λ (l : List (List ℕ)). get_or l i other) keys ∙ get_or-map (λ (e : List ℕ × Oid). e.0) names i (text, oid) other low in
    let object : oid ≡ (get_or names i (text, oid)).1 =
    there ∙ ap (λ (l : List Oid). get_or l i none) objects ∙ get_or-map (λ (e : List ℕ × Oid). e.1) names i (text, oid) none low in
    λ k. (key k, object k)
