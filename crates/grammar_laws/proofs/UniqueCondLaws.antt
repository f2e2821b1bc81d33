-- Conditions: what spells the same tokens has one tree, nests alike, and is followed by the same.
use Rattle.std.proofs.Common.{◌≡◌, ℕ, ◌+◌, Bool, true, false, if◌then◌else◌, List, [], ◌∷◌, codes, Option, Some, None, refl, ap, sym, ◌∙◌}
use Rattle.std.specs.Str.{bytes_eq}
use Rattle.lore_base.specs.Names.{is_reserved}
use Rattle.lorel_trees.specs.Types.{Kind, Op, Eq, Ne, Lt, Le, Gt, Ge, Like}
use Rattle.lorel_tokens.specs.declared.token_types.Kind.TheVariants as k
use Rattle.lorel_tokens.specs.declared.token_types.Sign.TheVariants as s
use Rattle.lorel_trees.specs.Trees as t
use Rattle.lorel_trees.specs.Grammar as g
use Rattle.lorel_trees.specs.Paths.{spell_name, text_of_name, spell_path, tree_path, nest_path}
use Rattle.lorel_trees.specs.Literals.{spell_atom}
use Rattle.lorel_trees.specs.Conditions.{spell_op, spell_operand, tree_operand, nest_operand, joined, spell_cond, tree_cond, nest_cond, spell_more_conjs, trees_more_conjs, nest_more_conjs, spell_conj, tree_conj, nest_conj, spell_more_unaries, trees_more_unaries, nest_more_unaries, spell_unary, tree_unary, nest_unary}
use Rattle.grammar_laws.proofs.UniquePathLaws.{Alike, or_left, or_right, first, goes_on, told_apart, name_unique, path_unique, atom_unique, atom_no_path}

-- comparisons
abbrev op_of : List Kind → Option Op
op_of (k.Symbol s.Equal ∷ kinds) = Some Eq
op_of (k.Symbol s.NotEqual ∷ kinds) = Some Ne
op_of (k.Symbol s.Less ∷ kinds) = Some Lt
op_of (k.Symbol s.LessEqual ∷ kinds) = Some Le
op_of (k.Symbol s.Greater ∷ kinds) = Some Gt
op_of (k.Symbol s.GreaterEqual ∷ kinds) = Some Ge
op_of (k.Word text ∷ kinds) = Some Like
op_of _ = None

abbrev pub behind_first : List Kind → List Kind
behind_first [] = []
behind_first (kind ∷ kinds) = kinds

op_read : (op : Op) (rest : List Kind) → op_of (spell_op op rest) ≡ Some op
op_read Eq rest = refl
op_read Ne rest = refl
op_read Lt rest = refl
op_read Le rest = refl
op_read Gt rest = refl
op_read Ge rest = refl
op_read Like rest = refl

op_behind : (op : Op) (rest : List Kind) → behind_first (spell_op op rest) ≡ rest
op_behind Eq rest = refl
op_behind Ne rest = refl
op_behind Lt rest = refl
op_behind Le rest = refl
op_behind Gt rest = refl
op_behind Ge rest = refl
op_behind Like rest = refl

op_ends : (op : Op) (rest : List Kind) → first goes_on (spell_op op rest) ≡ false
op_ends Eq rest = refl
op_ends Ne rest = refl
op_ends Lt rest = refl
op_ends Le rest = refl
op_ends Gt rest = refl
op_ends Ge rest = refl
op_ends Like rest = refl

some_op : (one other : Op) → ◌≡◌ {A = Option Op} (Some one) (Some other) → one ≡ other
some_op one other same = cc

op_unique : (one other : Op) (rest behind : List Kind) → spell_op one rest ≡ spell_op other behind → (one ≡ other) × (rest ≡ behind)
op_unique one other rest behind same =
    (some_op one other (sym (op_read one rest) ∙ ap op_of same ∙ op_read other behind), sym (op_behind one rest) ∙ ap behind_first same ∙ op_behind other behind)

no_op : (op : Op) (rest behind : List Kind) → spell_op op rest ≡ k.Symbol s.SameAs ∷ behind → ⊥
no_op op rest behind same =
    let read : ◌≡◌ {A = Option Op} (Some op) None = sym (op_read op rest) ∙ ap op_of same in
    absurd (cc)

operand_unique : (one other : g.Operand) (rest behind : List Kind) → first goes_on rest ≡ false → first goes_on behind ≡ false → spell_operand one rest ≡ spell_operand other behind
    → Alike tree_operand nest_operand one other rest behind
operand_unique (g.constant value) (g.constant other) rest behind end stop same =
    let found = atom_unique value other rest behind same in record { trees = ap t.constant found.0; nests = refl; rests = found.1 }
operand_unique (g.reached path) (g.reached other) rest behind end stop same =
    let found = path_unique path other rest behind end stop same in record { trees = ap t.at found.trees; nests = found.nests; rests = found.rests }
operand_unique (g.constant value) (g.reached path) rest behind end stop same = absurd (atom_no_path value path rest behind same)
operand_unique (g.reached path) (g.constant value) rest behind end stop same = absurd (atom_no_path value path behind rest (sym same))

-- which form a condition has, by its first token
abbrev lead_word : List ℕ → ℕ
lead_word text =
    if bytes_eq text (codes "not") then 1
    else (if bytes_eq text (codes "exists") then 2
    else (if bytes_eq text (codes "for") then 3
    else 0))

abbrev lead : List Kind → ℕ
lead (k.Word text ∷ kinds) = lead_word text
lead (k.Symbol s.LeftParen ∷ kinds) = 4
lead _ = 0

abbrev form_of : g.Unary → ℕ
form_of (g.not body) = 1
form_of (g.exists name path body) = 2
form_of (g.for_all name path body) = 3
form_of (g.parens inner) = 4
form_of (g.compare left by right) = 0
form_of (g.same left right) = 0

free_lead : (text : List ℕ) → is_reserved text ≡ false → lead_word text ≡ 0
free_lead text unreserved =
    let below_select = or_right (bytes_eq text (codes "select")) _ unreserved in
    let below_from = or_right (bytes_eq text (codes "from")) _ below_select in
    let below_where = or_right (bytes_eq text (codes "where")) _ below_from in
    let below_and = or_right (bytes_eq text (codes "and")) _ below_where in
    let below_or = or_right (bytes_eq text (codes "or")) _ below_and in
    let below_not = or_right (bytes_eq text (codes "not")) _ below_or in
    let below_exists = or_right (bytes_eq text (codes "exists")) _ below_not in
    let no_not = or_left (bytes_eq text (codes "not")) _ below_or in
    let no_exists = or_left (bytes_eq text (codes "exists")) _ below_not in
    let no_for = or_left (bytes_eq text (codes "for")) _ below_exists in
    rw (no_not, no_exists, no_for)

atom_lead : (value : g.Atom) (rest : List Kind) → lead (spell_atom value rest) ≡ 0
atom_lead (g.number value) rest = refl
atom_lead (g.chars text) rest = refl
atom_lead (g.flag true) rest = refl
atom_lead (g.flag false) rest = refl

unary_formed : (one : g.Unary) (rest : List Kind) → lead (spell_unary one rest) ≡ form_of one
unary_formed (g.not body) rest = refl
unary_formed (g.exists name path body) rest = refl
unary_formed (g.for_all name path body) rest = refl
unary_formed (g.parens inner) rest = refl
unary_formed (g.compare (g.constant value) by right) rest = atom_lead value (spell_op by (spell_operand right rest))
unary_formed (g.compare (g.reached (g.rooted (g.free text unreserved) parts)) by right) rest = free_lead text unreserved
unary_formed (g.same (g.rooted (g.free text unreserved) parts) right) rest = free_lead text unreserved

same_form : (one other : g.Unary) (rest behind : List Kind) → spell_unary one rest ≡ spell_unary other behind → form_of one ≡ form_of other
same_form one other rest behind same = sym (unary_formed one rest) ∙ ap lead same ∙ unary_formed other behind

-- a variable, `in`, a path and `:`
binder_unique : (name other : g.Name) (path more : g.Path) (rest behind : List Kind)
    → spell_name name (k.Word (codes "in") ∷ spell_path path (k.Symbol s.Colon ∷ rest)) ≡ spell_name other (k.Word (codes "in") ∷ spell_path more (k.Symbol s.Colon ∷ behind))
    → (text_of_name name ≡ text_of_name other) × Alike tree_path nest_path path more rest behind
binder_unique name other path more rest behind same =
    let named = name_unique name other _ _ same in
    let tails : spell_path path (k.Symbol s.Colon ∷ rest) ≡ spell_path more (k.Symbol s.Colon ∷ behind) = ap behind_first named.1 in
    let found = path_unique path more _ _ refl refl tails in
    (named.0, record { trees = found.trees; nests = found.nests; rests = ap behind_first found.rests })

abbrev pub is_word : List ℕ → Kind → Bool
is_word wanted (k.Word text) = bytes_eq text wanted
is_word wanted _ = false

-- what follows goes on with neither a path nor `and`, and with no `or`
record EndsConj (rest : List Kind) : Type 0 where
  pub path : first goes_on rest ≡ false
  pub conj : first (is_word (codes "and")) rest ≡ false

pub record EndsCond (rest : List Kind) : Type 0 where
  pub path : first goes_on rest ≡ false
  pub conj : first (is_word (codes "and")) rest ≡ false
  pub disj : first (is_word (codes "or")) rest ≡ false

unaries_end : (others : g.MoreUnaries) (rest : List Kind) → first goes_on rest ≡ false → first goes_on (spell_more_unaries others rest) ≡ false
unaries_end g.no_unaries rest end = end
unaries_end (g.and one others) rest end = refl

conjs_end : (others : g.MoreConjs) (rest : List Kind) → EndsCond rest → EndsConj (spell_more_conjs others rest)
conjs_end g.no_conjs rest end = record { path = end.path; conj = end.conj }
conjs_end (g.or one others) rest end = record { path = refl; conj = refl }

joined_same : (join : t.CondTrees → t.CondTree) (one other : t.CondTree) (others more : t.CondTrees) → one ≡ other → others ≡ more → joined join one others ≡ joined join other more
joined_same join one other others more head tail = ap (λ first. joined join first others) head ∙ ap (joined join other) tail

mutual
  pub cond_unique : (one other : g.Cond) (rest behind : List Kind) → EndsCond rest → EndsCond behind → spell_cond one rest ≡ spell_cond other behind
      → Alike tree_cond nest_cond one other rest behind
  cond_unique (g.conjs one others) (g.conjs other more) rest behind end stop same =
      let head = conj_unique one other _ _ (conjs_end others rest end) (conjs_end more behind stop) same in
      let tail = more_conjs_unique others more rest behind end stop head.rests in
      record { trees = joined_same t.or _ _ _ _ head.trees tail.trees; nests = cc (head.nests, tail.nests); rests = tail.rests }

  more_conjs_unique : (all more : g.MoreConjs) (rest behind : List Kind) → EndsCond rest → EndsCond behind → spell_more_conjs all rest ≡ spell_more_conjs more behind
      → Alike trees_more_conjs nest_more_conjs all more rest behind
  more_conjs_unique g.no_conjs g.no_conjs rest behind end stop same = record { trees = refl; nests = refl; rests = same }
  more_conjs_unique g.no_conjs (g.or other more) rest behind end stop same = absurd (told_apart (is_word (codes "or")) _ _ same end.disj refl)
  more_conjs_unique (g.or one others) g.no_conjs rest behind end stop same = absurd (told_apart (is_word (codes "or")) _ _ (sym same) stop.disj refl)
  more_conjs_unique (g.or one others) (g.or other more) rest behind end stop same =
      let head = conj_unique one other _ _ (conjs_end others rest end) (conjs_end more behind stop) (ap behind_first same) in
      let tail = more_conjs_unique others more rest behind end stop head.rests in
      record { trees = cc (head.trees, tail.trees); nests = cc (head.nests, tail.nests); rests = tail.rests }

  conj_unique : (one other : g.Conj) (rest behind : List Kind) → EndsConj rest → EndsConj behind → spell_conj one rest ≡ spell_conj other behind
      → Alike tree_conj nest_conj one other rest behind
  conj_unique (g.unaries one others) (g.unaries other more) rest behind end stop same =
      let head = unary_unique one other _ _ (unaries_end others rest end.path) (unaries_end more behind stop.path) same in
      let tail = more_unaries_unique others more rest behind end stop head.rests in
      record { trees = joined_same t.and _ _ _ _ head.trees tail.trees; nests = cc (head.nests, tail.nests); rests = tail.rests }

  more_unaries_unique : (all more : g.MoreUnaries) (rest behind : List Kind) → EndsConj rest → EndsConj behind → spell_more_unaries all rest ≡ spell_more_unaries more behind
      → Alike trees_more_unaries nest_more_unaries all more rest behind
  more_unaries_unique g.no_unaries g.no_unaries rest behind end stop same = record { trees = refl; nests = refl; rests = same }
  more_unaries_unique g.no_unaries (g.and other more) rest behind end stop same = absurd (told_apart (is_word (codes "and")) _ _ same end.conj refl)
  more_unaries_unique (g.and one others) g.no_unaries rest behind end stop same = absurd (told_apart (is_word (codes "and")) _ _ (sym same) stop.conj refl)
  more_unaries_unique (g.and one others) (g.and other more) rest behind end stop same =
      let head = unary_unique one other _ _ (unaries_end others rest end.path) (unaries_end more behind stop.path) (ap behind_first same) in
      let tail = more_unaries_unique others more rest behind end stop head.rests in
      record { trees = cc (head.trees, tail.trees); nests = cc (head.nests, tail.nests); rests = tail.rests }

  unary_unique : (one other : g.Unary) (rest behind : List Kind) → first goes_on rest ≡ false → first goes_on behind ≡ false → spell_unary one rest ≡ spell_unary other behind
      → Alike tree_unary nest_unary one other rest behind
  unary_unique (g.not body) (g.not other) rest behind end stop same =
      let found = unary_unique body other rest behind end stop (ap behind_first same) in
      record { trees = ap t.not found.trees; nests = ap (λ depth. depth + 1) found.nests; rests = found.rests }
  unary_unique (g.parens inner) (g.parens other) rest behind end stop same =
      let found = cond_unique inner other (k.Symbol s.RightParen ∷ rest) (k.Symbol s.RightParen ∷ behind) record { path = refl; conj = refl; disj = refl } record { path = refl; conj = refl; disj = refl } (ap behind_first same) in
      record { trees = found.trees; nests = ap (λ depth. depth + 1) found.nests; rests = ap behind_first found.rests }
  unary_unique (g.exists name path body) (g.exists called more other) rest behind end stop same =
      let bound = binder_unique name called path more _ _ (ap behind_first same) in
      let found = unary_unique body other rest behind end stop bound.1.rests in
      record { trees = cc (bound.0, bound.1.trees, found.trees); nests = cc (bound.1.nests, found.nests); rests = found.rests }
  unary_unique (g.for_all name path body) (g.for_all called more other) rest behind end stop same =
      let bound = binder_unique name called path more _ _ (ap behind_first (ap behind_first same)) in
      let found = unary_unique body other rest behind end stop bound.1.rests in
      record { trees = cc (bound.0, bound.1.trees, found.trees); nests = cc (bound.1.nests, found.nests); rests = found.rests }
  unary_unique (g.compare left by right) (g.compare other op more) rest behind end stop same =
      let lefts = operand_unique left other _ _ (op_ends by (spell_operand right rest)) (op_ends op (spell_operand more behind)) same in
      let ops = op_unique by op _ _ lefts.rests in
      let rights = operand_unique right more rest behind end stop ops.1 in
      record { trees = cc (lefts.trees, ops.0, rights.trees); nests = cc (lefts.nests, rights.nests); rests = rights.rests }
  unary_unique (g.same left right) (g.same other more) rest behind end stop same =
      let lefts = path_unique left other _ _ refl refl same in
      let rights = path_unique right more rest behind end stop (ap behind_first lefts.rests) in
      record { trees = cc (lefts.trees, rights.trees); nests = cc (lefts.nests, rights.nests); rests = rights.rests }
  unary_unique (g.compare (g.reached left) by right) (g.same other more) rest behind end stop same =
      absurd (no_op by _ _ (path_unique left other _ _ (op_ends by (spell_operand right rest)) refl same).rests)
  unary_unique (g.same left right) (g.compare (g.reached other) by more) rest behind end stop same =
      absurd (no_op by _ _ (sym (path_unique left other _ _ refl (op_ends by (spell_operand more behind)) same).rests))
  unary_unique (g.compare (g.constant value) by right) (g.same path more) rest behind end stop same =
      absurd (atom_no_path value path (spell_op by (spell_operand right rest)) (k.Symbol s.SameAs ∷ spell_path more behind) same)
  unary_unique (g.same path right) (g.compare (g.constant value) by more) rest behind end stop same =
      absurd (atom_no_path value path (spell_op by (spell_operand more behind)) (k.Symbol s.SameAs ∷ spell_path right rest) (sym same))
  unary_unique one other rest behind end stop same = absurd (let form = same_form one other rest behind same in cc)
