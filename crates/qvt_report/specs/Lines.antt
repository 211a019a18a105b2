-- What a run that has ended well has for its line, and the line by that.
use Rattle.std.specs.Prelude.{◌≡◌, ℕ, List, [], ◌∷◌, ◌++◌, codes, decimal, length, Option, Some, None}
use Rattle.qvt_conform.specs.declared.fault.LowFault.{LowFault}
use Rattle.qvt_store.specs.Contents.{Contents}
use Rattle.qvt_meaning.specs.Run.{FinishedRun}
use Rattle.qvt_meaning_report.specs.Lines.{low_fault_line, written_count}

-- the store, how many records and entries there are, and the cost
pub record IsDone (f : FinishedRun) (s : Contents) (calls lates spent : ℕ) : Type 0 where
  pub store : f.after ≡ s
  pub records : length f.finish.trace ≡ calls
  pub entries : length f.entries ≡ lates
  pub cost : f.cost ≡ spent

abbrev pub done_text : ℕ → ℕ → ℕ → ℕ → List ℕ
done_text objects records entries cost =
    codes "done: " ++ (decimal objects ++ (codes " objects, " ++ (decimal records ++ (codes " records, " ++ (decimal entries ++ (codes " late, cost " ++ (decimal cost ++ 10 ∷ [])))))))

abbrev pub line_for : Contents → List (Option (List ℕ)) → ℕ → ℕ → ℕ → Option LowFault → List ℕ
line_for s ids records entries cost (Some low) = low_fault_line s ids low
line_for s ids records entries cost None = done_text (written_count s) records entries cost
