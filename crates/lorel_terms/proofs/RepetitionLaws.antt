-- Parsers made of others are sound and complete where these are.
use Rattle.std.proofs.Common.{◌≡◌, ℕ, zero, suc, ◌≤◌, max, Bool, true, false, List, [], ◌∷◌, ◌++◌, length, map, Some, refl, ap, ◌∙◌, sym, arith, append_assoc, inl, inr}
use Rattle.std.proofs.lemmas.List.{append-nil}
use Rattle.std.proofs.lemmas.Bool.{cases_Bool}
use Rattle.std.proofs.lemmas.Slice.Eq.{bytes_eq-Decides}
use Rattle.lorel_tokens.specs.declared.token_types.Kind.{Kind}
use Rattle.lorel_tokens.specs.declared.token_types.Kind.TheVariants as k
use Rattle.lorel_tokens.specs.declared.token_types.Sign.{Sign}
use Rattle.lorel_tokens.specs.declared.token_types.Sign.TheVariants as s
use Rattle.lorel_trees.specs.Repetitions.{spell_each, nest_each}
use Rattle.lorel_terms.specs.Outcomes.{Outcome, Parse, and_then, next, sees, sees_word, expect, expect_word}
use Rattle.lorel_terms.proofs.OutcomeLaws.{some_parts, bind_some, sees_sign, sees_this_word, expect_some, expect_word_some}
use Rattle.lorel_terms.specs.Repetitions.{mapped, both, behind_sign, behind_word, closed_sign, closed_word, each_in, each, some_of}

pub sees-sign : (sign : Sign) (rest : List Kind) → sees sign (k.Symbol sign ∷ rest) ≡ true
unfolding sees
sees-sign s.Dot rest = refl
sees-sign _ rest = refl

pub sees-word : (wanted : List ℕ) (rest : List Kind) → sees_word wanted (k.Word wanted ∷ rest) ≡ true
unfolding sees_word
sees-word wanted rest = (bytes_eq-Decides wanted wanted).1 refl

pub expect-sign : (sign : Sign) (rest : List Kind) → ◌≡◌ {A = Outcome (Unit {0})} (expect sign (k.Symbol sign ∷ rest)) (Some (tt, rest))
unfolding expect
expect-sign sign rest = rw (sees-sign sign rest)

pub expect-word : (wanted : List ℕ) (rest : List Kind) → ◌≡◌ {A = Outcome (Unit {0})} (expect_word wanted (k.Word wanted ∷ rest)) (Some (tt, rest))
unfolding expect_word
expect-word wanted rest = rw (sees-word wanted rest)

-- a derivation that was read: it spells the tokens up to the rest and stands for what was found
pub record IsRead {D A : Type 0} (spell : D → List Kind → List Kind) (tree : D → A) (nest : D → ℕ) (depth : ℕ) (kinds rest : List Kind) (found : A) : Type 0 where
  pub by : D
  pub deep : nest by ≤ depth
  pub spelled : kinds ≡ spell by rest
  pub stands : tree by ≡ found

-- what is read has a derivation of this depth at most, and what has one is read, before a rest that can't go on
pub record IsParserOf {D A : Type 0} (parse : Parse A) (spell : D → List Kind → List Kind) (tree : D → A) (nest : D → ℕ) (depth : ℕ) (Ends : List Kind → Type 0) : Type 0 where
  pub sound : (kinds rest : List Kind) (found : A) → ◌≡◌ {A = Outcome A} (parse kinds) (Some (found, rest)) → IsRead spell tree nest depth kinds rest found
  pub complete : (d : D) (rest : List Kind) → nest d ≤ depth → Ends rest → ◌≡◌ {A = Outcome A} (parse (spell d rest)) (Some (tree d, rest))

abbrev pub Spell : Type 0 → Type 0
Spell D = D → List Kind → List Kind

-- any rest may follow
abbrev pub Anything : List Kind → Type 0
Anything rest = Unit {0}

-- no token follows
abbrev pub Nothing : List Kind → Type 0
Nothing rest = rest ≡ []

-- a derivation that can't nest
abbrev pub flat : {D : Type 0} → D → ℕ
flat d = 0

module _ {D A : Type 0} {parse : Parse A} {spell : Spell D} {tree : D → A} {nest : D → ℕ} {depth : ℕ} {Ends : List Kind → Type 0} where
  pub mapped_parser : {B : Type 0} (make : A → B) → IsParserOf parse spell tree nest depth Ends → IsParserOf (mapped make parse) spell (λ d. make (tree d)) nest depth Ends
  mapped_parser {B} make one = record {
    sound = λ kinds rest found read.
        let finish : A → Parse B = λ a behind. Some (make a, behind) in
        let (a, mid, first, last) = bind_some (parse kinds) finish found rest read in
        let parts = some_parts last in
        let x = one.sound kinds mid a first in
        record { by = x.by; deep = x.deep; spelled = x.spelled ∙ ap (spell x.by) parts.1; stands = ap make x.stands ∙ parts.0 };
    complete = λ d rest deep end. rw (one.complete d rest deep end);
  }

  pub behind_parser : (sign : Sign) → IsParserOf parse spell tree nest depth Ends → IsParserOf (behind_sign sign parse) (λ d rest. k.Symbol sign ∷ spell d rest) tree nest depth Ends
  behind_parser sign one = record {
    sound = λ kinds rest found read.
        let more : Unit {0} → Parse A = λ _ left. parse left in
        let (u, mid, taken, others) = bind_some (expect sign kinds) more found rest read in
        let x = one.sound mid rest found others in
        record { by = x.by; deep = x.deep; spelled = expect_some sign kinds mid u taken ∙ ap (λ (left : List Kind). k.Symbol sign ∷ left) x.spelled; stands = x.stands };
    complete = λ d rest deep end. rw (expect-sign sign (spell d rest)) (one.complete d rest deep end);
  }

  pub behind_word_parser : (word : List ℕ) → IsParserOf parse spell tree nest depth Ends → IsParserOf (behind_word word parse) (λ d rest. k.Word word ∷ spell d rest) tree nest depth Ends
  behind_word_parser word one = record {
    sound = λ kinds rest found read.
        let more : Unit {0} → Parse A = λ _ left. parse left in
        let (u, mid, taken, others) = bind_some (expect_word word kinds) more found rest read in
        let x = one.sound mid rest found others in
        record { by = x.by; deep = x.deep; spelled = expect_word_some word kinds mid u taken ∙ ap (λ (left : List Kind). k.Word word ∷ left) x.spelled; stands = x.stands };
    complete = λ d rest deep end. rw (expect-word word (spell d rest)) (one.complete d rest deep end);
  }

  pub closed_parser : (sign : Sign) → ((rest : List Kind) → Ends (k.Symbol sign ∷ rest)) → IsParserOf parse spell tree nest depth Ends
      → IsParserOf (closed_sign sign parse) (λ d rest. spell d (k.Symbol sign ∷ rest)) tree nest depth Anything
  closed_parser sign ends one = record {
    sound = λ kinds rest found read.
        let more : A → Parse A = λ a left. and_then (expect sign left) (λ _ end. Some (a, end)) in
        let (a, mid, first, others) = bind_some (parse kinds) more found rest read in
        let finish : Unit {0} → Parse A = λ _ end. Some (a, end) in
        let (u, end, taken, last) = bind_some (expect sign mid) finish found rest others in
        let parts = some_parts last in
        let x = one.sound kinds mid a first in
        record {
          by = x.by;
          deep = x.deep;
          spelled = x.spelled ∙ ap (spell x.by) (expect_some sign mid end u taken ∙ ap (λ (left : List Kind). k.Symbol sign ∷ left) parts.1);
          stands = x.stands ∙ parts.0;
        };
    complete = λ d rest deep end. rw (one.complete d (k.Symbol sign ∷ rest) deep (ends rest), expect-sign sign rest);
  }

  pub closed_word_parser : (word : List ℕ) → ((rest : List Kind) → Ends (k.Word word ∷ rest)) → IsParserOf parse spell tree nest depth Ends
      → IsParserOf (closed_word word parse) (λ d rest. spell d (k.Word word ∷ rest)) tree nest depth Anything
  closed_word_parser word ends one = record {
    sound = λ kinds rest found read.
        let more : A → Parse A = λ a left. and_then (expect_word word left) (λ _ end. Some (a, end)) in
        let (a, mid, first, others) = bind_some (parse kinds) more found rest read in
        let finish : Unit {0} → Parse A = λ _ end. Some (a, end) in
        let (u, end, taken, last) = bind_some (expect_word word mid) finish found rest others in
        let parts = some_parts last in
        let x = one.sound kinds mid a first in
        record {
          by = x.by;
          deep = x.deep;
          spelled = x.spelled ∙ ap (spell x.by) (expect_word_some word mid end u taken ∙ ap (λ (left : List Kind). k.Word word ∷ left) parts.1);
          stands = x.stands ∙ parts.0;
        };
    complete = λ d rest deep end. rw (one.complete d (k.Word word ∷ rest) deep (ends rest), expect-word word rest);
  }

  -- the same, where less may follow
  pub weaker : {Fewer : List Kind → Type 0} → ((rest : List Kind) → Fewer rest → Ends rest) → IsParserOf parse spell tree nest depth Ends → IsParserOf parse spell tree nest depth Fewer
  weaker ends one = record { sound = one.sound; complete = λ d rest deep end. one.complete d rest deep (ends rest end) }

  pub both_parser : {E B : Type 0} {other : Parse B} {spell_other : Spell E} {tree_other : E → B} {nest_other : E → ℕ} {EndsOther : List Kind → Type 0}
      → ((e : E) (rest : List Kind) → EndsOther rest → Ends (spell_other e rest)) → IsParserOf parse spell tree nest depth Ends → IsParserOf other spell_other tree_other nest_other depth EndsOther
      → IsParserOf (both parse other) (λ (d : D × E) rest. spell d.0 (spell_other d.1 rest)) (λ d. (tree d.0, tree_other d.1)) (λ d. max (nest d.0) (nest_other d.1)) depth EndsOther
  both_parser {E} {B} {other} {spell_other} {tree_other} {nest_other} {EndsOther} ends one two = record {
    sound = λ kinds rest found read.
        let more : A → Parse (A × B) = λ a left. and_then (other left) (λ b end. Some ((a, b), end)) in
        let (a, mid, first, others) = bind_some (parse kinds) more found rest read in
        let finish : B → Parse (A × B) = λ b end. Some ((a, b), end) in
        let (b, end, second, last) = bind_some (other mid) finish found rest others in
        let parts = some_parts last in
        let x = one.sound kinds mid a first in
        let y = two.sound mid end b second in
        record {
          by = (x.by, y.by);
          deep = let u = x.deep in let v = y.deep in omega arith;
          spelled = x.spelled ∙ ap (spell x.by) (y.spelled ∙ ap (spell_other y.by) parts.1);
          stands = ap (λ (p : A). (p, tree_other y.by)) x.stands ∙ ap (λ (q : B). (a, q)) y.stands ∙ parts.0;
        };
    complete = λ d rest deep end.
        rw (one.complete d.0 (spell_other d.1 rest) (omega arith) (ends d.1 rest end), two.complete d.1 rest (omega arith) end);
  }

-- repetitions
module _ {A : Type 0} (leads : List Kind → Bool) (one : Parse A) where
  pub each_in-end : (turns : ℕ) (before : List A) (kinds : List Kind) → leads kinds ≡ false → ◌≡◌ {A = Outcome (List A)} (each_in leads one turns before kinds) (Some (before, kinds))
  unfolding each_in
  each_in-end zero before kinds ended = refl
  each_in-end (suc turns) before kinds ended = rw ended

  pub each_in-more : (turns : ℕ) (before : List A) (kinds rest : List Kind) (found : A) → leads kinds ≡ true
      → ◌≡◌ {A = Outcome A} (one (next kinds)) (Some (found, rest)) → each_in leads one (suc turns) before kinds ≡ each_in leads one turns (before ++ found ∷ []) rest
  unfolding each_in
  each_in-more turns before kinds rest found more read = rw (more, read)

  pub each-turns : (before : List A) (kinds : List Kind) → each leads one before kinds ≡ each_in leads one (length kinds) before kinds
  unfolding each
  each-turns before kinds = refl

-- a test of the token that leads to each thing
pub record IsTestOf (leads : List Kind → Bool) (lead : Kind) : Type 0 where
  pub seen : (rest : List Kind) → leads (lead ∷ rest) ≡ true
  pub stands : (kinds : List Kind) → leads kinds ≡ true → kinds ≡ lead ∷ next kinds

pub sign_test : (sign : Sign) → IsTestOf (sees sign) (k.Symbol sign)
sign_test sign = record { seen = sees-sign sign; stands = sees_sign sign }

pub word_test : (word : List ℕ) → IsTestOf (sees_word word) (k.Word word)
word_test word = record { seen = sees-word word; stands = sees_this_word word }

-- no token that leads to another thing follows, nor one that goes on with the last
pub record EndsEach (leads : List Kind → Bool) (Ends : List Kind → Type 0) (rest : List Kind) : Type 0 where
  pub other : leads rest ≡ false
  pub ends : Ends rest

module _ {D A : Type 0} {one : Parse A} {spell : Spell D} {tree : D → A} {nest : D → ℕ} {depth : ℕ} {Ends : List Kind → Type 0} {leads : List Kind → Bool} {lead : Kind} where
  each_in_sound : IsTestOf leads lead → IsParserOf one spell tree nest depth Ends → (turns : ℕ) (before found : List A) (kinds rest : List Kind)
      → ◌≡◌ {A = Outcome (List A)} (each_in leads one turns before kinds) (Some (found, rest))
      → IsRead (spell_each lead spell) (λ ds. before ++ map tree ds) (nest_each nest) depth kinds rest found
  unfolding each_in
  each_in_sound test item zero before found kinds rest read =
      let parts = some_parts read in
      record { by = []; deep = omega arith; spelled = parts.1; stands = append-nil before ∙ parts.0 }
  each_in_sound test item (suc turns) before found kinds rest read =
      elim (cases_Bool (leads kinds)) [
        | inl more ↦
            let go_on : A → Parse (List A) = λ a left. each_in leads one turns (before ++ a ∷ []) left in
            let (a, mid, first, others) = bind_some (one (next kinds)) go_on found rest (rw more at read) in
            let x = item.sound (next kinds) mid a first in
            let y = each_in_sound test item turns (before ++ a ∷ []) found mid rest others in
            record {
              by = x.by ∷ y.by;
              deep = let u = x.deep in let v = y.deep in omega arith;
              spelled = test.stands kinds more ∙ ap (λ (left : List Kind). lead ∷ left) (x.spelled ∙ ap (spell x.by) y.spelled);
              stands = ap (λ (b : A). before ++ b ∷ map tree y.by) x.stands ∙ sym (append_assoc before (a ∷ []) (map tree y.by)) ∙ y.stands;
            }
        | inr ended ↦
            let parts = some_parts (rw ended at read) in
            record { by = []; deep = omega arith; spelled = parts.1; stands = append-nil before ∙ parts.0 }
      ]

  each_in_complete : IsTestOf leads lead → ((d : D) (rest : List Kind) → length rest ≤ length (spell d rest)) → ((rest : List Kind) → Ends (lead ∷ rest))
      → IsParserOf one spell tree nest depth Ends → (ds : List D) (turns : ℕ) (before : List A) (rest : List Kind) → nest_each nest ds ≤ depth
      → length (spell_each lead spell ds rest) ≤ turns → EndsEach leads Ends rest
      → ◌≡◌ {A = Outcome (List A)} (each_in leads one turns before (spell_each lead spell ds rest)) (Some (before ++ map tree ds, rest))
  each_in_complete test longer goes_on item [] turns before rest deep fits end = rw append-nil (each_in-end leads one turns before rest end.other)
  each_in_complete test longer goes_on item (d ∷ ds) zero before rest deep fits end = absurd (omega arith)
  each_in_complete test longer goes_on item (d ∷ ds) (suc turns) before rest deep fits end =
      let left = spell_each lead spell ds rest in
      let fewer : length left ≤ turns = omega (arith, longer d left) in
      let ended : Ends left = elim ds as (λ (x : List D). Ends (spell_each lead spell x rest)) [ [] ↦ end.ends | (e ∷ es) ↦ goes_on (spell e (spell_each lead spell es rest)) ] in
      each_in-more leads one turns before (lead ∷ spell d left) left (tree d) (test.seen (spell d left)) (item.complete d left (omega arith) ended)
      ∙ each_in_complete test longer goes_on item ds turns (before ++ tree d ∷ []) rest (omega arith) fewer end
      ∙ ap (λ (all : List A). Some (all, rest)) (append_assoc before (tree d ∷ []) (map tree ds))

  pub each_parser : IsTestOf leads lead → ((d : D) (rest : List Kind) → length rest ≤ length (spell d rest)) → ((rest : List Kind) → Ends (lead ∷ rest))
      → IsParserOf one spell tree nest depth Ends → (before : List A)
      → IsParserOf (each leads one before) (spell_each lead spell) (λ ds. before ++ map tree ds) (nest_each nest) depth (EndsEach leads Ends)
  each_parser test longer goes_on item before = record {
    sound = λ kinds rest found read. each_in_sound test item (length kinds) before found kinds rest (sym (each-turns leads one before kinds) ∙ read);
    complete = λ ds rest deep end.
        let left = spell_each lead spell ds rest in
        each-turns leads one before left ∙ each_in_complete test longer goes_on item ds (length left) before rest deep (omega arith) end;
  }

  pub some_of_parser : IsTestOf leads lead → ((d : D) (rest : List Kind) → length rest ≤ length (spell d rest)) → ((rest : List Kind) → Ends (lead ∷ rest))
      → IsParserOf one spell tree nest depth Ends
      → IsParserOf (some_of leads one) (λ (ds : D × List D) rest. spell ds.0 (spell_each lead spell ds.1 rest)) (λ ds. tree ds.0 ∷ map tree ds.1)
      (λ ds. max (nest ds.0) (nest_each nest ds.1)) depth (EndsEach leads Ends)
  some_of_parser test longer goes_on item = record {
    sound = λ kinds rest found read.
        let more : A → Parse (List A) = λ first left. each leads one (first ∷ []) left in
        let (first, mid, held, others) = bind_some (one kinds) more found rest read in
        let x = item.sound kinds mid first held in
        let y = (each_parser test longer goes_on item (first ∷ [])).sound mid rest found others in
        record {
          by = (x.by, y.by);
          deep = let u = x.deep in let v = y.deep in omega arith;
          spelled = x.spelled ∙ ap (spell x.by) y.spelled;
          stands = ap (λ (a : A). a ∷ map tree y.by) x.stands ∙ y.stands;
        };
    complete = λ ds rest deep end.
        let left = spell_each lead spell ds.1 rest in
        let ended : Ends left = elim (ds.1) as (λ (x : List D). Ends (spell_each lead spell x rest)) [ [] ↦ end.ends | (e ∷ es) ↦ goes_on (spell e (spell_each lead spell es rest)) ] in
        rw (item.complete ds.0 left (omega arith) ended)
        ((each_parser test longer goes_on item (tree ds.0 ∷ [])).complete ds.1 rest (omega arith) end);
  }
