-- The notes of the signs that are left.
use Rattle.std.proofs.Common.{◌≡◌, ◌∙◌, ℕ, suc, ◌+◌, ◌<◌, List, length, drop, ap, arith}
use Rattle.std.proofs.Math.Seq.{drop-cons}
use Rattle.qvt_tree_types.specs.declared.words.Sign.{Sign}
use Rattle.qvt_tree_types.specs.declared.words.PrefixOp.TheVariants.{Not}
use Rattle.qvt_types_states.specs.Judge.{writes_nothing}
use Rattle.qvt_types_states.specs.declared.state.TypingState.{TypingState}
use Rattle.qvt_types_context.specs.Rules.{sign_notes}

some_sign : Sign
some_sign = record { op = Not; place = record { line = 1; column = 1; offset = 0 } }

pub next_note : (ss : List Sign) (n : ℕ) (s : TypingState) → n < length ss → sign_notes (drop n ss) s ≡ sign_notes (drop (n + 1) ss) (writes_nothing s).1
next_note ss n s h =
    let more : suc n ≡ n + 1 = omega arith in
    ap (λ l. sign_notes l s) (drop-cons ss n some_sign h)
    ∙ ap (λ j. sign_notes (drop j ss) (writes_nothing s).1) more
