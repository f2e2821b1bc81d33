-- The declared types that definitions and proofs cite, with their variants, and the limits, under one module.
pub use Rattle.lore_base.specs.declared.refusals.Refusal.{Refusal}
pub use Rattle.lore_base.specs.declared.refusals.Refusal.TheVariants as refusals
pub use Rattle.lore_base.specs.declared.limits.TheConstants.{TEXT_BYTES, WORD_BYTES, CHUNK_BYTES}
pub use Rattle.lorel_tokens.specs.declared.token_types.Token.{Token}
pub use Rattle.lorel_tokens.specs.declared.token_types.Kind.{Kind}
pub use Rattle.lorel_tokens.specs.declared.token_types.Kind.TheVariants as kinds
pub use Rattle.lorel_tokens.specs.declared.token_types.Kind.TheVariants.{Word, Wild, PathOf, Number, Local}
pub use Rattle.lorel_tokens.specs.declared.token_types.Kind.TheVariants.{Chars, Quoted, Symbol}
pub use Rattle.lorel_tokens.specs.declared.token_types.Sign.{Sign}
pub use Rattle.lorel_tokens.specs.declared.token_types.Sign.TheVariants as signs
pub use Rattle.lorel_tokens.specs.declared.token_types.Sign.TheVariants.{LeftBrace, RightBrace, LeftParen}
pub use Rattle.lorel_tokens.specs.declared.token_types.Sign.TheVariants.{RightParen, Comma, Dot, Colon, Assign}
pub use Rattle.lorel_tokens.specs.declared.token_types.Sign.TheVariants.{Equal, SameAs, NotEqual, Less}
pub use Rattle.lorel_tokens.specs.declared.token_types.Sign.TheVariants.{LessEqual, Greater, GreaterEqual}
pub use Rattle.lorel_tokens.specs.declared.token_types.Sign.TheVariants.{PlusAssign, MinusAssign, Question, Star}
pub use Rattle.lorel_tokens.specs.declared.token_types.Sign.TheVariants.{Plus, Bar, Hash, At}
pub use Rattle.lorel_lex.specs.declared.faults.LexFault.{LexFault}
pub use Rattle.lorel_lex.specs.declared.faults.LexFault.TheVariants.{BadToken, RealRefused, NumberRange}
pub use Rattle.lorel_lex.specs.declared.faults.LexFault.TheVariants.{TextTooLong, NoMemory}
pub use Rattle.lorel_lex.specs.declared.byte_class.ByteClass.{ByteClass}
pub use Rattle.lorel_lex.specs.declared.byte_class.ByteClass.TheVariants.{Letter, Digit, Minus, Ampersand}
pub use Rattle.lorel_lex.specs.declared.byte_class.ByteClass.TheVariants.{DoubleQuote, SingleQuote, Other}
