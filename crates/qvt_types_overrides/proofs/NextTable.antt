-- The table of a name more.
use Rattle.std.proofs.Common.{◌≡◌, ◌∙◌, ℕ, zero, suc, ◌+◌, ◌<◌, List, [], ◌∷◌, ◌++◌, length, get_or, refl, sym, ap, subst, arith, length-append}
use Rattle.std.proofs.lemmas.List.{get_or_past}
use Rattle.qvt_metas.specs.Metamodels.{Metamodels}
use Rattle.qvt_metamodel.proofs.Halves.{Half, old, new, half, old-at, new-at}
use Rattle.qvt_types_groups.specs.declared.signature.Signature.{Signature}
use Rattle.qvt_types_above.specs.declared.above.Above.TheVariants.{Untold}
use Rattle.qvt_types_above.specs.declared.table.AboveTable.{AboveTable}
use Rattle.qvt_types_overrides.specs.Ranked.{table_at, no_table, EachFrom}
use Rattle.qvt_types_above.specs.Tells.{Tells, IsFrom, AllFrom}

-- no table: nothing is told
nothing_from : (m : Metamodels) (us : List Signature) (ns : List ℕ) → AllFrom m us ns no_table
nothing_from m us ns c = subst (λ a. Tells m us [] (IsFrom m us ns c) a) (sym (get_or_past [] c Untold (omega arith))) tt

either_default : (xs : List (List ℕ)) (n : ℕ) (a b : List ℕ) → n < length xs → get_or xs n a ≡ get_or xs n b
either_default [] n a b low = absurd (omega (arith, low))
either_default (x ∷ xs) zero a b low = refl
either_default (x ∷ xs) (suc n) a b low = either_default xs n a b (omega (arith, low))

-- the table of a name more
pub next_table : (m : Metamodels) (us : List Signature) (lists : List (List ℕ)) (tables : List AboveTable) (n : ℕ) (ns : List ℕ) (table : AboveTable)
    → length tables ≡ n → n < length lists → ns ≡ get_or lists n ns → EachFrom m us lists tables → AllFrom m us ns table → EachFrom m us lists (tables ++ table ∷ [])
next_table m us lists tables n ns table long there item each this s = by s (half (length tables) s)
  where
    at : ns ≡ get_or lists n []
    at = item ∙ either_default lists n ns [] there

    by : (s : ℕ) → Half (length tables) s → AllFrom m us (get_or lists s []) (table_at (tables ++ table ∷ []) s)
    by _ (old s low) = subst (AllFrom m us (get_or lists s [])) (sym (old-at tables (table ∷ []) s no_table low)) (each s)
    by _ (new zero) = subst (AllFrom m us (get_or lists (length tables + 0) [])) (sym (new-at tables (table ∷ []) 0 no_table))
        (subst (λ xs. AllFrom m us xs table) (at ∙ ap (λ k. get_or lists k []) (let same : n ≡ length tables + 0 = omega (arith, long) in same)) this)
    by _ (new (suc k)) = subst (AllFrom m us (get_or lists (length tables + suc k) [])) (sym (new-at tables (table ∷ []) (suc k) no_table)) (nothing_from m us (get_or lists (length tables + suc k) []))

-- no tables
pub no_tables : (m : Metamodels) (us : List Signature) (lists : List (List ℕ)) → EachFrom m us lists []
no_tables m us lists s = subst (AllFrom m us (get_or lists s [])) (sym (get_or_past [] s no_table (omega arith))) (nothing_from m us (get_or lists s []))

pub one_longer : (had has : List AboveTable) (table : AboveTable) (n : ℕ) → length had ≡ n → has ≡ had ++ table ∷ [] → length has ≡ n + 1
one_longer had has table n long e = omega (arith, long, ap length e, length-append had (table ∷ []))
