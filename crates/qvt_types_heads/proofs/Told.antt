-- What is told of the heads, in two parts.
use Rattle.std.proofs.Common.{◌≡◌, ◌∙◌, List, [], ◌++◌, sym, ap, append_assoc}
use Rattle.std.specs.List.{flat_map}
use Rattle.qvt_metamodel.specs.Metamodels.{Metamodels}
use Rattle.qvt_tree_types.specs.Module.{ModuleTerm}
use Rattle.qvt_types_data.specs.declared.refusal.TypingRefusal.{TypingRefusal}
use Rattle.qvt_types_lists.specs.Units.{head_told, same_told, overrides_told, lists_told, main_told}
use Rattle.qvt_types_context.specs.Accepts.{heads_of, heads_told, reuse_lists}
use Rattle.qvt_types_context.specs.Context.{DeclaredHeads}
use Rattle.qvt_types_heads.specs.Heads.{types_told, units_told}

split : (p a b c d e : List TypingRefusal) → p ++ a ++ b ++ c ++ d ++ e ≡ p ++ (a ++ b ++ c ++ d ++ e)
split p a b c d e =
    ap (λ xs. xs ++ e) (ap (λ xs. xs ++ d) (ap (λ xs. xs ++ c) (append_assoc p a b) ∙ append_assoc p (a ++ b) c) ∙ append_assoc p (a ++ b ++ c) d)
    ∙ append_assoc p (a ++ b ++ c ++ d) e

pub all_told : (m : Metamodels) (t : ModuleTerm)
    → heads_told (heads_of m t) t ≡ types_told m (heads_of m t).types t ++ units_told (heads_of m t) t
unfolding heads_told heads_of types_told units_told
all_told m t =
    split
    (types_told m (heads_of m t).types t)
    (flat_map (head_told m (heads_of m t).metas (heads_of m t).types (heads_of m t).models) t.units)
    (same_told [] (heads_of m t).units)
    (overrides_told (heads_of m t).metas (heads_of m t).units (heads_of m t).units)
    (lists_told m (heads_of m t).metas (heads_of m t).types (heads_of m t).units (reuse_lists (heads_of m t) t.units) 0 t.units)
    (main_told (heads_of m t).units t.end)

-- what is told in two steps
pub read_so : (m : Metamodels) (t : ModuleTerm) (h : DeclaredHeads) (l0 l1 l2 : List TypingRefusal)
    → l1 ≡ l0 ++ types_told m (heads_of m t).types t → l2 ≡ l1 ++ units_told h t → h ≡ heads_of m t
    → l2 ≡ l0 ++ heads_told (heads_of m t) t
read_so m t h l0 l1 l2 first second same =
    second
    ∙ ap (λ k. l1 ++ units_told k t) same
    ∙ ap (λ l. l ++ units_told (heads_of m t) t) first
    ∙ append_assoc l0 (types_told m (heads_of m t).types t) (units_told (heads_of m t) t)
    ∙ ap (λ l. l0 ++ l) (sym (all_told m t))
