-- Laws of paths: what they spell and reach is made of what their parts spell and reach.
use Rattle.std.specs.Prelude.{◌≡◌, ℕ, ◌↔◌, List, ◌++◌, All}
use Rattle.std.specs.List.{AllZip, flat_map}
use Rattle.lore_base.specs.Types.{Oid, Label, Edge}
use Rattle.lore_base.specs.Paths.{PathTree, any, seq, star, plus, none, more, trees_of, Spells, Reaches}

-- words, one after another
abbrev pub joined : List (List Label) → List Label
joined words = flat_map (λ word. word) words

-- `#` spells each word
abbrev pub SpellsEachWord : Type 0
SpellsEachWord = (labels : List (List ℕ)) (word : List Label) → Spells labels any word

-- what a sequence spells is a word of each part, joined
abbrev pub JoinsItsParts : Type 0
JoinsItsParts =
    (labels : List (List ℕ)) (parts : List PathTree) (word : List Label)
    → Spells labels (seq (trees_of parts)) word
    ↔ ((words : List (List Label)) × (word ≡ joined words) × AllZip (Spells labels) parts words)

-- what a star spells is any number of words of its part, joined
abbrev pub RepeatsItsPart : Type 0
RepeatsItsPart =
    (labels : List (List ℕ)) (part : PathTree) (word : List Label)
    → Spells labels (star part) word
    ↔ ((words : List (List Label)) × (word ≡ joined words) × All (Spells labels part) words)

-- what a plus spells is a word of its part, and then one of the star
abbrev pub RepeatsOnceOrMore : Type 0
RepeatsOnceOrMore =
    (labels : List (List ℕ)) (part : PathTree) (word : List Label)
    → Spells labels (plus part) word
    ↔ ((first : List Label) × (rest : List Label) × (word ≡ first ++ rest)
    × Spells labels part first × Spells labels (star part) rest)

-- a path and then another reach what the other reaches from an object that the one reaches
abbrev pub GoesOn : Type 0
GoesOn =
    (labels : List (List ℕ)) (edges : List Edge) (first second : PathTree) (start oid : Oid)
    → Reaches labels edges (seq (more first (more second none))) start oid
    ↔ ((between : Oid) × Reaches labels edges first start between × Reaches labels edges second between oid)
