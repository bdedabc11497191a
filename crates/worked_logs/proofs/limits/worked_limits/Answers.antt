use Rattle.std.proofs.Common.{arith}
use Rattle.worked_logs.proofs.FewPlaces.{points_kept, points_broken, cells_kept, cells_broken, accesses_kept, accesses_broken, plane_cells_kept, plane_cells_broken, plane_accesses_kept, plane_accesses_broken}
use Rattle.worked_logs.proofs.MuchLoad.{Fit, load_kept, load_broken}
use Rattle.worked_logs.proofs.ManyRecords.{records_kept, records_broken}
use Rattle.worked_logs.proofs.limits.worked_limits.Goals as goal

pub returns-clause-records : goal.returns-clause-records
returns-clause-records c = records_kept 131074 131072 (omega arith)

pub returns-clause-too_many_records : goal.returns-clause-too_many_records
returns-clause-too_many_records c = records_broken 131075 131073 (omega arith)

pub returns-clause-points : goal.returns-clause-points
returns-clause-points c = points_kept 1048576 (omega arith)

pub returns-clause-too_many_points : goal.returns-clause-too_many_points
returns-clause-too_many_points c = points_broken 1048577 (omega arith)

pub returns-clause-cells : goal.returns-clause-cells
returns-clause-cells c = cells_kept 65536 16 (omega arith) (omega arith)

pub returns-clause-too_many_cells : goal.returns-clause-too_many_cells
returns-clause-too_many_cells c = cells_broken 61681 17 (omega arith) (omega arith)

pub returns-clause-accesses : goal.returns-clause-accesses
returns-clause-accesses c = accesses_kept 1048576 4 (omega arith) (omega arith)

pub returns-clause-too_many_accesses : goal.returns-clause-too_many_accesses
returns-clause-too_many_accesses c = accesses_broken 838861 5 (omega arith) (omega arith)

pub returns-clause-load : goal.returns-clause-load
returns-clause-load c =
    let fit : Fit 4096 8 64 32 = record {
      points_fit = omega arith;
      records_fit = omega arith;
      accesses_fit = omega arith;
      cells_fit = omega arith;
    } in
    load_kept 104 4096 8 64 32 fit (omega arith)

pub returns-clause-too_much_load : goal.returns-clause-too_much_load
returns-clause-too_much_load c =
    let fit : Fit 1613 5 157 53 = record {
      points_fit = omega arith;
      records_fit = omega arith;
      accesses_fit = omega arith;
      cells_fit = omega arith;
    } in
    load_broken 218 1613 5 157 53 fit (omega arith)

pub returns-clause-plane_cells : goal.returns-clause-plane_cells
returns-clause-plane_cells c = plane_cells_kept 1048576 (omega arith)

pub returns-clause-too_many_plane_cells : goal.returns-clause-too_many_plane_cells
returns-clause-too_many_plane_cells c = plane_cells_broken 1048577 (omega arith)

pub returns-clause-plane_accesses : goal.returns-clause-plane_accesses
returns-clause-plane_accesses c = plane_accesses_kept 4194304 (omega arith)

pub returns-clause-too_many_plane_accesses : goal.returns-clause-too_many_plane_accesses
returns-clause-too_many_plane_accesses c = plane_accesses_broken 4194305 (omega arith)
