-- No path has a token `+=` or `-=`, so none goes on past one.
use Rattle.std.proofs.Common.{◌≡◌, ℕ, suc, ◌+◌, ◌≤◌, ◌⊎◌, List, [], ◌∷◌, ◌++◌, length, refl, ap, sym, ◌∙◌, zero, inl, inr, arith, length-append, append_assoc}
use Rattle.lorel_trees.specs.Types.{Kind}
use Rattle.lorel_tokens.specs.declared.token_types.Kind.TheVariants as k
use Rattle.lorel_tokens.specs.declared.token_types.Sign.TheVariants as s
use Rattle.lorel_trees.specs.Grammar as g
use Rattle.lorel_trees.specs.Paths.{spell_label, spell_name, spell_alt, spell_choices, spell_seq, spell_parts, spell_part, spell_base, spell_path}
use Rattle.grammar_laws.specs.Laws.{Assigns, TakesLastLabel}
use Rattle.lorel_trees.proofs.TargetLaws.{longer_path, is_joined, splits}

-- 1 for `+=` and `-=`
abbrev weight : Kind → ℕ
weight (k.Symbol s.PlusAssign) = 1
weight (k.Symbol s.MinusAssign) = 1
weight _ = 0

abbrev assigns : List Kind → ℕ
assigns [] = 0
assigns (kind ∷ kinds) = weight kind + assigns kinds

assigns-append : (front back : List Kind) → assigns (front ++ back) ≡ assigns front + assigns back
assigns-append [] back = omega arith
assigns-append (kind ∷ front) back = let same = assigns-append front back in omega arith

weight_one : (kind : Kind) → Assigns kind → weight kind ≡ 1
weight_one kind (inl is) = ap weight is
weight_one kind (inr is) = ap weight is

assigns-label : (one : g.Label) (rest : List Kind) → assigns (spell_label one rest) ≡ assigns rest
assigns-label (g.word text) rest = omega arith
assigns-label (g.quoted text) rest = omega arith

assigns-name : (name : g.Name) (rest : List Kind) → assigns (spell_name name rest) ≡ assigns rest
assigns-name (g.free text free) rest = omega arith

mutual
  assigns-alt : (inner : g.Alt) (rest : List Kind) → assigns (spell_alt inner rest) ≡ assigns rest
  assigns-alt (g.choice first others) rest = assigns-seq first (spell_choices others rest) ∙ assigns-choices others rest

  assigns-choices : (others : g.Choices) (rest : List Kind) → assigns (spell_choices others rest) ≡ assigns rest
  assigns-choices g.no_choices rest = refl
  assigns-choices (g.bar first others) rest =
      let one = assigns-seq first (spell_choices others rest) in
      let more = assigns-choices others rest in
      omega arith

  assigns-seq : (one : g.Seq) (rest : List Kind) → assigns (spell_seq one rest) ≡ assigns rest
  assigns-seq (g.sequence first others) rest = assigns-part first (spell_parts others rest) ∙ assigns-parts others rest

  assigns-parts : (parts : g.Parts) (rest : List Kind) → assigns (spell_parts parts rest) ≡ assigns rest
  assigns-parts g.no_parts rest = refl
  assigns-parts (g.part first others) rest = assigns-part first (spell_parts others rest) ∙ assigns-parts others rest

  assigns-part : (one : g.Part) (rest : List Kind) → assigns (spell_part one rest) ≡ assigns rest
  assigns-part (g.once base) rest = assigns-base base rest
  assigns-part (g.question base) rest = let inner = assigns-base base (k.Symbol s.Question ∷ rest) in omega arith
  assigns-part (g.star base) rest = let inner = assigns-base base (k.Symbol s.Star ∷ rest) in omega arith
  assigns-part (g.plus base) rest = let inner = assigns-base base (k.Symbol s.Plus ∷ rest) in omega arith

  assigns-base : (base : g.Base) (rest : List Kind) → assigns (spell_base base rest) ≡ assigns rest
  assigns-base (g.label one) rest = let inner = assigns-label one rest in omega arith
  assigns-base (g.pattern text) rest = omega arith
  assigns-base g.hash rest = omega arith
  assigns-base (g.group inner) rest = let one = assigns-alt inner (k.Symbol s.RightParen ∷ rest) in omega arith

assigns-path : (path : g.Path) (rest : List Kind) → assigns (spell_path path rest) ≡ assigns rest
assigns-path (g.rooted name parts) rest = assigns-name name (spell_parts parts rest) ∙ assigns-parts parts rest

-- the tokens that follow stand at the end
abbrev Ends : List Kind → List Kind → Type 0
Ends all rest = (front : List Kind) × (all ≡ front ++ rest)

ends_more : (kind : Kind) (all rest : List Kind) → Ends all rest → Ends (kind ∷ all) rest
ends_more kind all rest (front, is) = (kind ∷ front, ap (λ kinds. kind ∷ kinds) is)

ends_first : (kind : Kind) (all rest : List Kind) → Ends all (kind ∷ rest) → Ends all rest
ends_first kind all rest (front, is) = (front ++ kind ∷ [], is ∙ sym (append_assoc front (kind ∷ []) rest))

ends_trans : (all mid rest : List Kind) → Ends all mid → Ends mid rest → Ends all rest
ends_trans all mid rest (front, is) (more, also) = (front ++ more, is ∙ ap (λ kinds. front ++ kinds) also ∙ sym (append_assoc front more rest))

ends_label : (one : g.Label) (rest : List Kind) → Ends (spell_label one rest) rest
ends_label (g.word text) rest = (k.Word text ∷ [], refl)
ends_label (g.quoted text) rest = (k.Quoted text ∷ [], refl)

mutual
  ends_alt : (inner : g.Alt) (rest : List Kind) → Ends (spell_alt inner rest) rest
  ends_alt (g.choice first others) rest = ends_trans _ (spell_choices others rest) rest (ends_seq first (spell_choices others rest)) (ends_choices others rest)

  ends_choices : (others : g.Choices) (rest : List Kind) → Ends (spell_choices others rest) rest
  ends_choices g.no_choices rest = ([], refl)
  ends_choices (g.bar first others) rest =
      ends_more (k.Symbol s.Bar) _ rest (ends_trans _ (spell_choices others rest) rest (ends_seq first (spell_choices others rest)) (ends_choices others rest))

  ends_seq : (one : g.Seq) (rest : List Kind) → Ends (spell_seq one rest) rest
  ends_seq (g.sequence first others) rest = ends_trans _ (spell_parts others rest) rest (ends_part first (spell_parts others rest)) (ends_parts others rest)

  ends_parts : (parts : g.Parts) (rest : List Kind) → Ends (spell_parts parts rest) rest
  ends_parts g.no_parts rest = ([], refl)
  ends_parts (g.part first others) rest = ends_trans _ (spell_parts others rest) rest (ends_part first (spell_parts others rest)) (ends_parts others rest)

  ends_part : (one : g.Part) (rest : List Kind) → Ends (spell_part one rest) rest
  ends_part (g.once base) rest = ends_base base rest
  ends_part (g.question base) rest = ends_first (k.Symbol s.Question) _ rest (ends_base base (k.Symbol s.Question ∷ rest))
  ends_part (g.star base) rest = ends_first (k.Symbol s.Star) _ rest (ends_base base (k.Symbol s.Star ∷ rest))
  ends_part (g.plus base) rest = ends_first (k.Symbol s.Plus) _ rest (ends_base base (k.Symbol s.Plus ∷ rest))

  ends_base : (base : g.Base) (rest : List Kind) → Ends (spell_base base rest) rest
  ends_base (g.label one) rest = ends_more (k.Symbol s.Dot) _ rest (ends_label one rest)
  ends_base (g.pattern text) rest = (k.Symbol s.Dot ∷ k.Wild text ∷ [], refl)
  ends_base g.hash rest = (k.Symbol s.Dot ∷ k.Symbol s.Hash ∷ [], refl)
  ends_base (g.group inner) rest =
      ends_more (k.Symbol s.LeftParen) _ rest (ends_first (k.Symbol s.RightParen) _ rest (ends_alt inner (k.Symbol s.RightParen ∷ rest)))

ends_path : (path : g.Path) (rest : List Kind) → Ends (spell_path path rest) rest
ends_path (g.rooted (g.free text free) parts) rest = ends_more (k.Word text) _ rest (ends_parts parts rest)

-- of two ends of one list the shorter one is an end of the other
shorter_end : (front back : List Kind) (rest behind : List Kind) → front ++ behind ≡ back ++ rest → length behind ≤ length rest → Ends rest behind
shorter_end front [] rest behind same short = (front, sym same)
shorter_end [] (kind ∷ back) rest behind same short =
    let sized : length behind ≡ suc (length (back ++ rest)) = ap length same in
    let more = length-append back rest in
    absurd (omega arith)
shorter_end (first ∷ front) (kind ∷ back) rest behind same short = let tails : front ++ behind ≡ back ++ rest = cc in shorter_end front back rest behind tails short

nat_cases : (m n : ℕ) → (m ≤ n) ⊎ (suc n ≤ m)
nat_cases zero n = inl (omega arith)
nat_cases (suc m) zero = inr (omega arith)
nat_cases (suc m) (suc n) = elim (nat_cases m n) [ inl low ↦ inl (omega arith) | inr high ↦ inr (omega arith) ]

too_few : (rest behind : List Kind) (kind : Kind) → Assigns kind → assigns behind ≡ weight kind + assigns rest → Ends rest behind → ⊥
too_few rest behind kind assigning counted (front, is) =
    let one = weight_one kind assigning in
    let parts : assigns rest ≡ assigns front + assigns behind = ap assigns is ∙ assigns-append front behind in
    omega arith

longest : (target path : g.Path) (last : g.Label) (kind : Kind) (rest behind : List Kind) → Assigns kind
    → spell_path path behind ≡ spell_path target (k.Symbol s.Dot ∷ spell_label last (kind ∷ rest)) → length (kind ∷ rest) ≤ length behind
longest target path last kind rest behind assigning same =
    let whole = longer_path target last in
    let spelled : spell_path path behind ≡ spell_path whole (kind ∷ rest) = same ∙ sym ((is_joined target last).spelled (kind ∷ rest)) in
    let counted : assigns behind ≡ weight kind + assigns rest = sym (assigns-path path behind) ∙ ap assigns spelled ∙ assigns-path whole (kind ∷ rest) in
    elim (nat_cases (length behind) (length rest)) [
      | inl short ↦ absurd (too_few rest behind kind assigning counted (
          let one = ends_path path behind in
          let two = ends_first kind _ rest (ends_path whole (kind ∷ rest)) in
          shorter_end one.0 two.0 rest behind (sym one.1 ∙ spelled ∙ two.1) short))
      | inr long ↦ long
    ]

pub takes_last : TakesLastLabel
takes_last = record { joined = λ target last. (longer_path target last, is_joined target last); longest = longest; split = splits }
