use Rattle.qvt_ocl_types.proofs.EachRow.{every_row}
use Rattle.qvt_ocl_types.proofs.law.rows_hold.Goals as goal

pub returns : goal.returns
returns c = every_row
