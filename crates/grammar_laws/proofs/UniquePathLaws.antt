-- Paths and literals: what spells the same tokens has one tree, nests alike, and is followed by the same.
use Rattle.std.proofs.Common.{◌≡◌, ℕ, ◌+◌, Bool, true, false, ◌||◌, if◌then◌else◌, List, [], ◌∷◌, ◌++◌, map, Option, Some, None, refl, ap, sym, ◌∙◌}
use Rattle.lore_base.specs.Paths as p
use Rattle.lorel_trees.specs.Types.{Kind, Plain}
use Rattle.lorel_tokens.specs.declared.token_types.Kind.TheVariants as k
use Rattle.lorel_tokens.specs.declared.token_types.Sign.TheVariants as s
use Rattle.lorel_trees.specs.Trees as t
use Rattle.lorel_trees.specs.Grammar as g
use Rattle.lorel_trees.specs.Repetitions.{spell_each, nest_each}
use Rattle.lorel_trees.specs.Paths.{spell_name, text_of_name, spell_label, text_of_label, spell_alt, trees_alt, nest_alt, spell_choices, trees_choices, nest_choices, spell_seq, tree_seq, nest_seq, spell_parts, trees_parts, nest_parts, spell_part, tree_part, nest_part, spell_base, tree_base, nest_base, spell_path, tree_path, nest_path}
use Rattle.lorel_trees.specs.Literals.{atom_kind, spell_atom, value_of_atom, is_atom_kind, spell_mark, spell_literal, tree_literal, nest_literal, spell_members, trees_members, nest_members, spell_more_members, trees_more_members, nest_more_members}
use Rattle.lorel_trees.proofs.TargetLaws.{longer_path, is_joined}
use Rattle.lorel_trees.proofs.AtomLaws.{atom_seen, atom_determined, atom_reserved}

-- two derivations have one tree and nest alike, and the same follows them
pub record Alike {D T : Type 0} (tree : D → T) (nest : D → ℕ) (one other : D) (rest behind : List Kind) : Type 0 where
  pub trees : tree one ≡ tree other
  pub nests : nest one ≡ nest other
  pub rests : rest ≡ behind

pub not_true : true ≡ false → ⊥
not_true same = absurd (cc)

pub or_left : (one other : Bool) → (one || other) ≡ false → one ≡ false
or_left true other none = absurd (not_true none)
or_left false other none = refl

pub or_right : (one other : Bool) → (one || other) ≡ false → other ≡ false
or_right true other none = absurd (not_true none)
or_right false other none = none

-- the first token, if there is one, passes the test
abbrev pub first : (Kind → Bool) → List Kind → Bool
first test [] = false
first test (kind ∷ kinds) = test kind

abbrev pub is_mark : Kind → Bool
is_mark (k.Symbol s.Question) = true
is_mark (k.Symbol s.Star) = true
is_mark (k.Symbol s.Plus) = true
is_mark _ = false

abbrev pub is_step : Kind → Bool
is_step (k.Symbol s.Dot) = true
is_step (k.Symbol s.LeftParen) = true
is_step _ = false

-- a path goes on with this token
abbrev pub goes_on : Kind → Bool
goes_on kind = is_mark kind || is_step kind

-- where a test tells two lists apart, they differ
pub told_apart : (test : Kind → Bool) (one other : List Kind) → one ≡ other → first test one ≡ false → first test other ≡ true → ⊥
told_apart test one other same lacks has = not_true (sym has ∙ sym (ap (first test) same) ∙ lacks)

-- names and labels
pub name_unique : (one other : g.Name) (rest behind : List Kind) → spell_name one rest ≡ spell_name other behind → (text_of_name one ≡ text_of_name other) × (rest ≡ behind)
name_unique (g.free text unreserved) (g.free other free) rest behind same = (cc, cc)

pub label_unique : (one other : g.Label) (rest behind : List Kind) → spell_label one rest ≡ spell_label other behind → (text_of_label one ≡ text_of_label other) × (rest ≡ behind)
label_unique (g.word text) (g.word other) rest behind same = (cc, cc)
label_unique (g.quoted text) (g.quoted other) rest behind same = (cc, cc)
label_unique (g.word text) (g.quoted other) rest behind same = absurd (cc)
label_unique (g.quoted text) (g.word other) rest behind same = absurd (cc)

-- lists
pub each_end : {D : Type 0} (kind : Kind) (spell : D → List Kind → List Kind) (E : List Kind → Type 0) → ((kinds : List Kind) → E (kind ∷ kinds))
    → (all : List D) (rest : List Kind) → E rest → E (spell_each kind spell all rest)
each_end kind spell E starts [] rest end = end
each_end kind spell E starts (one ∷ others) rest end = starts (spell one (spell_each kind spell others rest))

pub each_unique : {D T : Type 0} (kind : Kind) (test : Kind → Bool) (spell : D → List Kind → List Kind) (tree : D → T) (nest : D → ℕ) (E : List Kind → Type 0)
    → test kind ≡ true → ((kinds : List Kind) → E (kind ∷ kinds))
    → ((one other : D) (rest behind : List Kind) → E rest → E behind → spell one rest ≡ spell other behind → Alike tree nest one other rest behind)
    → (all more : List D) (rest behind : List Kind) → E rest → E behind → first test rest ≡ false → first test behind ≡ false
    → spell_each kind spell all rest ≡ spell_each kind spell more behind → Alike (map tree) (nest_each nest) all more rest behind
each_unique kind test spell tree nest E is starts unique [] [] rest behind end stop bare free same = record { trees = refl; nests = refl; rests = same }
each_unique kind test spell tree nest E is starts unique [] (other ∷ more) rest behind end stop bare free same = absurd (told_apart test _ _ same bare is)
each_unique kind test spell tree nest E is starts unique (one ∷ others) [] rest behind end stop bare free same = absurd (told_apart test _ _ (sym same) free is)
each_unique kind test spell tree nest E is starts unique (one ∷ others) (other ∷ more) rest behind end stop bare free same =
    let tails : spell one (spell_each kind spell others rest) ≡ spell other (spell_each kind spell more behind) = cc in
    let head = unique one other _ _ (each_end kind spell E starts others rest end) (each_end kind spell E starts more behind stop) tails in
    let tail = each_unique kind test spell tree nest E is starts unique others more rest behind end stop bare free head.rests in
    record { trees = cc (head.trees, tail.trees); nests = cc (head.nests, tail.nests); rests = tail.rests }

-- paths
mark_ends : (rest : List Kind) → first goes_on rest ≡ false → first is_mark rest ≡ false
mark_ends [] end = refl
mark_ends (kind ∷ kinds) end = or_left (is_mark kind) (is_step kind) end

base_starts : (base : g.Base) (rest : List Kind) → first goes_on (spell_base base rest) ≡ true
base_starts (g.label one) rest = refl
base_starts (g.pattern text) rest = refl
base_starts g.hash rest = refl
base_starts (g.group inner) rest = refl

base_unmarked : (base : g.Base) (rest : List Kind) → first is_mark (spell_base base rest) ≡ false
base_unmarked (g.label one) rest = refl
base_unmarked (g.pattern text) rest = refl
base_unmarked g.hash rest = refl
base_unmarked (g.group inner) rest = refl

part_starts : (one : g.Part) (rest : List Kind) → first goes_on (spell_part one rest) ≡ true
part_starts (g.once base) rest = base_starts base rest
part_starts (g.question base) rest = base_starts base (k.Symbol s.Question ∷ rest)
part_starts (g.star base) rest = base_starts base (k.Symbol s.Star ∷ rest)
part_starts (g.plus base) rest = base_starts base (k.Symbol s.Plus ∷ rest)

part_unmarked : (one : g.Part) (rest : List Kind) → first is_mark (spell_part one rest) ≡ false
part_unmarked (g.once base) rest = base_unmarked base rest
part_unmarked (g.question base) rest = base_unmarked base (k.Symbol s.Question ∷ rest)
part_unmarked (g.star base) rest = base_unmarked base (k.Symbol s.Star ∷ rest)
part_unmarked (g.plus base) rest = base_unmarked base (k.Symbol s.Plus ∷ rest)

parts_unmarked : (parts : g.Parts) (rest : List Kind) → first goes_on rest ≡ false → first is_mark (spell_parts parts rest) ≡ false
parts_unmarked g.no_parts rest end = mark_ends rest end
parts_unmarked (g.part first others) rest end = part_unmarked first (spell_parts others rest)

choices_end : (others : g.Choices) (rest : List Kind) → first goes_on (spell_choices others (k.Symbol s.RightParen ∷ rest)) ≡ false
choices_end g.no_choices rest = refl
choices_end (g.bar first others) rest = refl

-- the form of a base, by its first tokens
abbrev base_form : List Kind → ℕ
base_form (k.Symbol s.LeftParen ∷ kinds) = 4
base_form (kind ∷ k.Wild text ∷ kinds) = 2
base_form (kind ∷ k.Symbol s.Hash ∷ kinds) = 3
base_form _ = 1

abbrev form_of_base : g.Base → ℕ
form_of_base (g.label one) = 1
form_of_base (g.pattern text) = 2
form_of_base g.hash = 3
form_of_base (g.group inner) = 4

base_formed : (base : g.Base) (rest : List Kind) → base_form (spell_base base rest) ≡ form_of_base base
base_formed (g.label (g.word text)) rest = refl
base_formed (g.label (g.quoted text)) rest = refl
base_formed (g.pattern text) rest = refl
base_formed g.hash rest = refl
base_formed (g.group inner) rest = refl

same_form : (one other : g.Base) (rest behind : List Kind) → spell_base one rest ≡ spell_base other behind → form_of_base one ≡ form_of_base other
same_form one other rest behind same = sym (base_formed one rest) ∙ ap base_form same ∙ base_formed other behind

mutual
  alt_unique : (one other : g.Alt) (rest behind : List Kind) → spell_alt one (k.Symbol s.RightParen ∷ rest) ≡ spell_alt other (k.Symbol s.RightParen ∷ behind)
      → Alike trees_alt nest_alt one other rest behind
  alt_unique (g.choice one others) (g.choice other more) rest behind same =
      let head = seq_unique one other _ _ (choices_end others rest) (choices_end more behind) same in
      let tail = choices_unique others more rest behind head.rests in
      record { trees = cc (head.trees, tail.trees); nests = cc (head.nests, tail.nests); rests = tail.rests }

  choices_unique : (all more : g.Choices) (rest behind : List Kind) → spell_choices all (k.Symbol s.RightParen ∷ rest) ≡ spell_choices more (k.Symbol s.RightParen ∷ behind)
      → Alike trees_choices nest_choices all more rest behind
  choices_unique g.no_choices g.no_choices rest behind same = record { trees = refl; nests = refl; rests = cc }
  choices_unique g.no_choices (g.bar other more) rest behind same = absurd (cc)
  choices_unique (g.bar one others) g.no_choices rest behind same = absurd (cc)
  choices_unique (g.bar one others) (g.bar other more) rest behind same =
      let tails : spell_seq one (spell_choices others (k.Symbol s.RightParen ∷ rest)) ≡ spell_seq other (spell_choices more (k.Symbol s.RightParen ∷ behind)) = cc in
      let head = seq_unique one other _ _ (choices_end others rest) (choices_end more behind) tails in
      let tail = choices_unique others more rest behind head.rests in
      record { trees = cc (head.trees, tail.trees); nests = cc (head.nests, tail.nests); rests = tail.rests }

  seq_unique : (one other : g.Seq) (rest behind : List Kind) → first goes_on rest ≡ false → first goes_on behind ≡ false → spell_seq one rest ≡ spell_seq other behind
      → Alike tree_seq nest_seq one other rest behind
  seq_unique (g.sequence one others) (g.sequence other more) rest behind end stop same =
      let head = part_unique one other _ _ (parts_unmarked others rest end) (parts_unmarked more behind stop) same in
      let tail = parts_unique others more rest behind end stop head.rests in
      record { trees = cc (head.trees, tail.trees); nests = cc (head.nests, tail.nests); rests = tail.rests }

  parts_unique : (all more : g.Parts) (rest behind : List Kind) → first goes_on rest ≡ false → first goes_on behind ≡ false → spell_parts all rest ≡ spell_parts more behind
      → Alike trees_parts nest_parts all more rest behind
  parts_unique g.no_parts g.no_parts rest behind end stop same = record { trees = refl; nests = refl; rests = same }
  parts_unique g.no_parts (g.part other more) rest behind end stop same = absurd (told_apart goes_on _ _ same end (part_starts other (spell_parts more behind)))
  parts_unique (g.part one others) g.no_parts rest behind end stop same = absurd (told_apart goes_on _ _ (sym same) stop (part_starts one (spell_parts others rest)))
  parts_unique (g.part one others) (g.part other more) rest behind end stop same =
      let head = part_unique one other _ _ (parts_unmarked others rest end) (parts_unmarked more behind stop) same in
      let tail = parts_unique others more rest behind end stop head.rests in
      record { trees = cc (head.trees, tail.trees); nests = cc (head.nests, tail.nests); rests = tail.rests }

  part_unique : (one other : g.Part) (rest behind : List Kind) → first is_mark rest ≡ false → first is_mark behind ≡ false → spell_part one rest ≡ spell_part other behind
      → Alike tree_part nest_part one other rest behind
  part_unique (g.once one) (g.once other) rest behind end stop same =
      let found = base_unique one other rest behind same in record { trees = found.trees; nests = found.nests; rests = found.rests }
  part_unique (g.once one) (g.question other) rest behind end stop same = absurd (told_apart is_mark _ _ (base_unique one other rest (k.Symbol s.Question ∷ behind) same).rests end refl)
  part_unique (g.once one) (g.star other) rest behind end stop same = absurd (told_apart is_mark _ _ (base_unique one other rest (k.Symbol s.Star ∷ behind) same).rests end refl)
  part_unique (g.once one) (g.plus other) rest behind end stop same = absurd (told_apart is_mark _ _ (base_unique one other rest (k.Symbol s.Plus ∷ behind) same).rests end refl)
  part_unique (g.question one) (g.once other) rest behind end stop same = absurd (told_apart is_mark _ _ (sym (base_unique one other (k.Symbol s.Question ∷ rest) behind same).rests) stop refl)
  part_unique (g.question one) (g.question other) rest behind end stop same =
      let found = base_unique one other (k.Symbol s.Question ∷ rest) (k.Symbol s.Question ∷ behind) same in
      let tails = found.rests in
      record { trees = ap p.opt found.trees; nests = found.nests; rests = cc }
  part_unique (g.question one) (g.star other) rest behind end stop same = absurd (let tails = (base_unique one other (k.Symbol s.Question ∷ rest) (k.Symbol s.Star ∷ behind) same).rests in cc)
  part_unique (g.question one) (g.plus other) rest behind end stop same = absurd (let tails = (base_unique one other (k.Symbol s.Question ∷ rest) (k.Symbol s.Plus ∷ behind) same).rests in cc)
  part_unique (g.star one) (g.once other) rest behind end stop same = absurd (told_apart is_mark _ _ (sym (base_unique one other (k.Symbol s.Star ∷ rest) behind same).rests) stop refl)
  part_unique (g.star one) (g.question other) rest behind end stop same = absurd (let tails = (base_unique one other (k.Symbol s.Star ∷ rest) (k.Symbol s.Question ∷ behind) same).rests in cc)
  part_unique (g.star one) (g.star other) rest behind end stop same =
      let found = base_unique one other (k.Symbol s.Star ∷ rest) (k.Symbol s.Star ∷ behind) same in
      let tails = found.rests in
      record { trees = ap p.star found.trees; nests = found.nests; rests = cc }
  part_unique (g.star one) (g.plus other) rest behind end stop same = absurd (let tails = (base_unique one other (k.Symbol s.Star ∷ rest) (k.Symbol s.Plus ∷ behind) same).rests in cc)
  part_unique (g.plus one) (g.once other) rest behind end stop same = absurd (told_apart is_mark _ _ (sym (base_unique one other (k.Symbol s.Plus ∷ rest) behind same).rests) stop refl)
  part_unique (g.plus one) (g.question other) rest behind end stop same = absurd (let tails = (base_unique one other (k.Symbol s.Plus ∷ rest) (k.Symbol s.Question ∷ behind) same).rests in cc)
  part_unique (g.plus one) (g.star other) rest behind end stop same = absurd (let tails = (base_unique one other (k.Symbol s.Plus ∷ rest) (k.Symbol s.Star ∷ behind) same).rests in cc)
  part_unique (g.plus one) (g.plus other) rest behind end stop same =
      let found = base_unique one other (k.Symbol s.Plus ∷ rest) (k.Symbol s.Plus ∷ behind) same in
      let tails = found.rests in
      record { trees = ap p.plus found.trees; nests = found.nests; rests = cc }

  base_unique : (one other : g.Base) (rest behind : List Kind) → spell_base one rest ≡ spell_base other behind → Alike tree_base nest_base one other rest behind
  base_unique (g.label one) (g.label other) rest behind same =
      let tails : spell_label one rest ≡ spell_label other behind = cc in
      let found = label_unique one other rest behind tails in
      record { trees = cc (found.0); nests = refl; rests = found.1 }
  base_unique (g.pattern text) (g.pattern other) rest behind same = record { trees = cc; nests = refl; rests = cc }
  base_unique g.hash g.hash rest behind same = record { trees = refl; nests = refl; rests = cc }
  base_unique (g.group inner) (g.group other) rest behind same =
      let tails : spell_alt inner (k.Symbol s.RightParen ∷ rest) ≡ spell_alt other (k.Symbol s.RightParen ∷ behind) = cc in
      let found = alt_unique inner other rest behind tails in
      record { trees = ap p.alt found.trees; nests = ap (λ depth. depth + 1) found.nests; rests = found.rests }
  base_unique one other rest behind same = absurd (let form = same_form one other rest behind same in cc)

pub path_unique : (one other : g.Path) (rest behind : List Kind) → first goes_on rest ≡ false → first goes_on behind ≡ false → spell_path one rest ≡ spell_path other behind
    → Alike tree_path nest_path one other rest behind
path_unique (g.rooted name parts) (g.rooted other more) rest behind end stop same =
    let head = name_unique name other _ _ same in
    let tail = parts_unique parts more rest behind end stop head.1 in
    record { trees = cc (head.0, tail.trees); nests = tail.nests; rests = tail.rests }

-- a target and its label
last_unique : (some more : List p.PathTree) (one other : p.PathTree) → some ++ one ∷ [] ≡ more ++ other ∷ [] → (some ≡ more) × (one ≡ other)
last_unique [] [] one other same = (refl, cc)
last_unique [] (first ∷ []) one other same = absurd (cc)
last_unique [] (first ∷ second ∷ more) one other same = absurd (cc)
last_unique (first ∷ []) [] one other same = absurd (cc)
last_unique (first ∷ second ∷ some) [] one other same = absurd (cc)
last_unique (first ∷ some) (start ∷ more) one other same =
    let tails : some ++ one ∷ [] ≡ more ++ other ∷ [] = cc in
    let found = last_unique some more one other tails in
    (cc (found.0), found.1)

plain_text : (one other : List ℕ) → p.step (Plain one) ≡ p.step (Plain other) → one ≡ other
plain_text one other same = cc

pub target_unique : (target other : g.Path) (last label : g.Label) (rest behind : List Kind) → first goes_on rest ≡ false → first goes_on behind ≡ false
    → spell_path target (k.Symbol s.Dot ∷ spell_label last rest) ≡ spell_path other (k.Symbol s.Dot ∷ spell_label label behind)
    → Alike tree_path nest_path target other rest behind × (text_of_label last ≡ text_of_label label)
target_unique (g.rooted name parts) (g.rooted called more) last label rest behind end stop same =
    let target = g.rooted name parts in
    let other = g.rooted called more in
    let one = is_joined target last in
    let two = is_joined other label in
    let whole = path_unique (longer_path target last) (longer_path other label) rest behind end stop (one.spelled rest ∙ same ∙ sym (two.spelled behind)) in
    let starts : text_of_name name ≡ text_of_name called = sym one.start ∙ ap (λ (tree : t.RootedTree). tree.start) whole.trees ∙ two.start in
    let ends = last_unique (trees_parts parts) (trees_parts more) _ _ (sym one.parts ∙ ap (λ (tree : t.RootedTree). tree.parts) whole.trees ∙ two.parts) in
    (record { trees = cc (starts, ends.0); nests = sym one.nest ∙ whole.nests ∙ two.nest; rests = whole.rests }, plain_text (text_of_label last) (text_of_label label) ends.1)

-- literals
abbrev is_local : Kind → Bool
is_local (k.Local id) = true
is_local _ = false

pub atom_unique : (one other : g.Atom) (rest behind : List Kind) → spell_atom one rest ≡ spell_atom other behind → (value_of_atom one ≡ value_of_atom other) × (rest ≡ behind)
atom_unique one other rest behind same =
    let all : atom_kind one ∷ rest ≡ atom_kind other ∷ behind = same in
    let head : atom_kind one ≡ atom_kind other = cc in
    (ap value_of_atom (atom_determined one other head), cc)

-- no path begins with an atom
pub atom_no_path : (value : g.Atom) (path : g.Path) (rest behind : List Kind) → spell_atom value rest ≡ spell_path path behind → ⊥
atom_no_path value (g.rooted (g.free text unreserved) parts) rest behind same =
    let all : atom_kind value ∷ rest ≡ k.Word text ∷ spell_parts parts behind = same in
    let head : k.Word text ≡ atom_kind value = cc in
    not_true (sym (atom_reserved value text head) ∙ unreserved)

seen_no_local : (kind : Kind) → is_atom_kind kind ≡ true → is_local kind ≡ false
seen_no_local (k.Local id) seen = absurd (cc)
seen_no_local kind seen = refl

atom_starts : (value : g.Atom) (rest : List Kind) → first is_local (spell_atom value rest) ≡ false
atom_starts value rest = seen_no_local (atom_kind value) (atom_seen value)

mark_unique : (mark other : Option ℕ) (rest behind : List Kind) → first is_local rest ≡ false → first is_local behind ≡ false → spell_mark mark rest ≡ spell_mark other behind
    → (mark ≡ other) × (rest ≡ behind)
mark_unique None None rest behind end stop same = (refl, same)
mark_unique None (Some id) rest behind end stop same = absurd (told_apart is_local _ _ same end refl)
mark_unique (Some id) None rest behind end stop same = absurd (told_apart is_local _ _ (sym same) stop refl)
mark_unique (Some id) (Some other) rest behind end stop same = (cc, cc)

-- the form of a literal, by its first tokens
abbrev brace_form : Kind → ℕ
brace_form (k.Symbol s.LeftBrace) = 2
brace_form _ = 0

abbrev pub value_form : List Kind → ℕ
value_form [] = 0
value_form (kind ∷ kinds) = if is_atom_kind kind then 1 else brace_form kind

abbrev literal_form : List Kind → ℕ
literal_form (k.Local id ∷ kinds) = value_form kinds
literal_form kinds = value_form kinds

abbrev form_of_literal : g.Literal → ℕ
form_of_literal (g.local id) = 0
form_of_literal (g.atom mark value) = 1
form_of_literal (g.braces mark inner) = 2

atom_valued : (kind : Kind) (kinds : List Kind) → is_atom_kind kind ≡ true → value_form (kind ∷ kinds) ≡ 1
atom_valued kind kinds seen = ap (λ (is : Bool). if is then 1 else brace_form kind) seen

atom_literal : (kind : Kind) (kinds : List Kind) → is_atom_kind kind ≡ true → literal_form (kind ∷ kinds) ≡ 1
atom_literal (k.Local id) kinds seen = absurd (cc)
atom_literal kind kinds seen = atom_valued kind kinds seen

literal_formed : (one : g.Literal) (rest : List Kind) → value_form rest ≡ 0 → literal_form (spell_literal one rest) ≡ form_of_literal one
literal_formed (g.local id) rest end = end
literal_formed (g.atom None value) rest end = atom_literal (atom_kind value) rest (atom_seen value)
literal_formed (g.atom (Some id) value) rest end = atom_valued (atom_kind value) rest (atom_seen value)
literal_formed (g.braces None inner) rest end = refl
literal_formed (g.braces (Some id) inner) rest end = refl

same_literal_form : (one other : g.Literal) (rest behind : List Kind) → value_form rest ≡ 0 → value_form behind ≡ 0 → spell_literal one rest ≡ spell_literal other behind
    → form_of_literal one ≡ form_of_literal other
same_literal_form one other rest behind end stop same = sym (literal_formed one rest end) ∙ ap literal_form same ∙ literal_formed other behind stop

more_members_end : (others : g.MoreMembers) (rest : List Kind) → value_form (spell_more_members others (k.Symbol s.RightBrace ∷ rest)) ≡ 0
more_members_end g.no_more rest = refl
more_members_end (g.comma one others) rest = refl

mutual
  pub literal_unique : (one other : g.Literal) (rest behind : List Kind) → value_form rest ≡ 0 → value_form behind ≡ 0 → spell_literal one rest ≡ spell_literal other behind
      → Alike tree_literal nest_literal one other rest behind
  literal_unique (g.local id) (g.local other) rest behind end stop same = record { trees = cc; nests = refl; rests = cc }
  literal_unique (g.atom mark value) (g.atom local other) rest behind end stop same =
      let marks = mark_unique mark local _ _ (atom_starts value rest) (atom_starts other behind) same in
      let values = atom_unique value other rest behind marks.1 in
      record { trees = cc (marks.0, values.0); nests = refl; rests = values.1 }
  literal_unique (g.braces mark inner) (g.braces local other) rest behind end stop same =
      let marks = mark_unique mark local (k.Symbol s.LeftBrace ∷ spell_members inner (k.Symbol s.RightBrace ∷ rest)) (k.Symbol s.LeftBrace ∷ spell_members other (k.Symbol s.RightBrace ∷ behind)) refl refl same in
      let tails : spell_members inner (k.Symbol s.RightBrace ∷ rest) ≡ spell_members other (k.Symbol s.RightBrace ∷ behind) = cc (marks.1) in
      let found = members_unique inner other rest behind tails in
      record { trees = cc (marks.0, found.trees); nests = ap (λ depth. depth + 1) found.nests; rests = found.rests }
  literal_unique one other rest behind end stop same = absurd (let form = same_literal_form one other rest behind end stop same in cc)

  members_unique : (all more : g.Members) (rest behind : List Kind) → spell_members all (k.Symbol s.RightBrace ∷ rest) ≡ spell_members more (k.Symbol s.RightBrace ∷ behind)
      → Alike trees_members nest_members all more rest behind
  members_unique g.no_members g.no_members rest behind same = record { trees = refl; nests = refl; rests = cc }
  members_unique g.no_members (g.members (g.member (g.word text) held) others) rest behind same = absurd (cc)
  members_unique g.no_members (g.members (g.member (g.quoted text) held) others) rest behind same = absurd (cc)
  members_unique (g.members (g.member (g.word text) held) others) g.no_members rest behind same = absurd (cc)
  members_unique (g.members (g.member (g.quoted text) held) others) g.no_members rest behind same = absurd (cc)
  members_unique (g.members (g.member label held) others) (g.members (g.member other kept) more) rest behind same =
      let named = label_unique label other _ _ same in
      let inner = literal_unique held kept _ _ (more_members_end others rest) (more_members_end more behind) named.1 in
      let tail = more_members_unique others more rest behind inner.rests in
      record { trees = cc (named.0, inner.trees, tail.trees); nests = cc (inner.nests, tail.nests); rests = tail.rests }

  more_members_unique : (all more : g.MoreMembers) (rest behind : List Kind) → spell_more_members all (k.Symbol s.RightBrace ∷ rest) ≡ spell_more_members more (k.Symbol s.RightBrace ∷ behind)
      → Alike trees_more_members nest_more_members all more rest behind
  more_members_unique g.no_more g.no_more rest behind same = record { trees = refl; nests = refl; rests = cc }
  more_members_unique g.no_more (g.comma other more) rest behind same = absurd (cc)
  more_members_unique (g.comma one others) g.no_more rest behind same = absurd (cc)
  more_members_unique (g.comma (g.member label held) others) (g.comma (g.member other kept) more) rest behind same =
      let tails : spell_label label (spell_literal held (spell_more_members others (k.Symbol s.RightBrace ∷ rest))) ≡ spell_label other (spell_literal kept (spell_more_members more (k.Symbol s.RightBrace ∷ behind))) = cc in
      let named = label_unique label other _ _ tails in
      let inner = literal_unique held kept _ _ (more_members_end others rest) (more_members_end more behind) named.1 in
      let tail = more_members_unique others more rest behind inner.rests in
      record { trees = cc (named.0, inner.trees, tail.trees); nests = cc (inner.nests, tail.nests); rests = tail.rests }
