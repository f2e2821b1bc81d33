-- A derivation nests as deep as the deepest one within, and one level more where it encloses it.
use Rattle.std.proofs.Common.{◌≡◌, max, List, [], ◌∷◌, ◌++◌, map, Option, Some, None, refl, arith}
use Rattle.lorel_trees.specs.Grammar as g
use Rattle.lorel_trees.specs.Repetitions.{nest_each}
use Rattle.lorel_trees.specs.Selects.{nest_where, nest_range, nest_item}
use Rattle.grammar_laws.specs.Nesting as d
use Rattle.grammar_laws.specs.Nesting.{Derivation, within, levels, nest_of, where_within, CountsWhatIsWithin}

nest_each-append : (some more : List Derivation) → nest_each nest_of (some ++ more) ≡ max (nest_each nest_of some) (nest_each nest_of more)
nest_each-append [] more = omega arith
nest_each-append (first ∷ others) more = let both = nest_each-append others more in omega arith

ranges_nest : (ranges : List g.Range) → nest_each nest_of (map d.range ranges) ≡ nest_each nest_range ranges
ranges_nest [] = refl
ranges_nest (first ∷ others) = let more = ranges_nest others in omega arith

items_nest : (items : List g.Item) → nest_each nest_of (map d.item items) ≡ nest_each nest_item items
items_nest [] = refl
items_nest (first ∷ others) = let more = items_nest others in omega arith

conds_nest : (such : Option g.Cond) → nest_each nest_of (where_within such) ≡ nest_where such
conds_nest None = refl
conds_nest (Some one) = omega arith

pub counts_within : CountsWhatIsWithin
counts_within (d.alt (g.choice first others)) = omega arith
counts_within (d.choices g.no_choices) = refl
counts_within (d.choices (g.bar first others)) = omega arith
counts_within (d.seq (g.sequence first others)) = omega arith
counts_within (d.parts g.no_parts) = refl
counts_within (d.parts (g.part first others)) = omega arith
counts_within (d.part (g.once one)) = omega arith
counts_within (d.part (g.question one)) = omega arith
counts_within (d.part (g.star one)) = omega arith
counts_within (d.part (g.plus one)) = omega arith
counts_within (d.base (g.label one)) = refl
counts_within (d.base (g.pattern text)) = refl
counts_within (d.base g.hash) = refl
counts_within (d.base (g.group inner)) = omega arith
counts_within (d.path (g.rooted name walked)) = omega arith
counts_within (d.literal (g.local id)) = refl
counts_within (d.literal (g.atom mark value)) = refl
counts_within (d.literal (g.braces mark inner)) = omega arith
counts_within (d.members g.no_members) = refl
counts_within (d.members (g.members first others)) = omega arith
counts_within (d.more_members g.no_more) = refl
counts_within (d.more_members (g.comma first others)) = omega arith
counts_within (d.member (g.member name held)) = omega arith
counts_within (d.operand (g.constant value)) = refl
counts_within (d.operand (g.reached walked)) = omega arith
counts_within (d.cond (g.conjs first others)) = omega arith
counts_within (d.more_conjs g.no_conjs) = refl
counts_within (d.more_conjs (g.or first others)) = omega arith
counts_within (d.conj (g.unaries first others)) = omega arith
counts_within (d.more_unaries g.no_unaries) = refl
counts_within (d.more_unaries (g.and first others)) = omega arith
counts_within (d.unary (g.not body)) = omega arith
counts_within (d.unary (g.parens inner)) = omega arith
counts_within (d.unary (g.exists name walked body)) = omega arith
counts_within (d.unary (g.for_all name walked body)) = omega arith
counts_within (d.unary (g.compare left by right)) = omega arith
counts_within (d.unary (g.same left right)) = omega arith
counts_within (d.range (g.bare walked)) = omega arith
counts_within (d.range (g.variable walked name)) = omega arith
counts_within (d.range (g.word_variable walked bound name)) = omega arith
counts_within (d.tail (g.tail ranges such)) =
    let both = nest_each-append (map d.range ranges) (where_within such) in
    let first = ranges_nest ranges in
    let last = conds_nest such in
    omega arith
counts_within (d.item (g.object walked)) = omega arith
counts_within (d.item (g.path_of name)) = refl
counts_within (d.select (g.query first others end)) =
    let both = nest_each-append (map d.item others) (d.tail end ∷ []) in
    let more = items_nest others in
    omega arith
counts_within (d.addition (g.fresh held)) = omega arith
counts_within (d.addition (g.link walked)) = omega arith
counts_within (d.statement (g.load name held)) = omega arith
counts_within (d.statement (g.bind name walked)) = omega arith
counts_within (d.statement (g.unname name)) = refl
counts_within (d.statement (g.assign target value end)) = omega arith
counts_within (d.statement (g.add target name added end)) = omega arith
counts_within (d.statement (g.remove target name right end)) = omega arith
counts_within (d.statement (g.select inner)) = omega arith
counts_within (d.statement (g.explain inner)) = omega arith
counts_within (d.statement g.guide) = refl
counts_within (d.statement (g.browse walked)) = refl
counts_within (d.statement (g.sample walked count)) = refl
counts_within (d.statement (g.set_nodes nodes)) = refl
counts_within (d.statement (g.set_plan mode)) = refl
counts_within (d.statement g.dump) = refl
counts_within (d.statement (g.restore text)) = refl
counts_within (d.statement (g.generate seed count)) = refl
counts_within (d.statement (g.history on)) = refl
counts_within (d.statement (g.select_at moment inner)) = omega arith
counts_within (d.statement (g.changes from to)) = refl
counts_within (d.statement g.blocks) = refl
counts_within (d.statement (g.blocks_of inner)) = omega arith
counts_within (d.statement (g.watch name inner)) = omega arith
counts_within (d.statement (g.unwatch name)) = refl
counts_within (d.statement (g.show name)) = refl
