use Rattle.nest_laws.proofs.ManyGroups.{most_groups, one_group_too_many}
use Rattle.nest_laws.proofs.ManyPrivileges.{most_privileges, one_privilege_too_many}
use Rattle.nest_laws.proofs.meanings.worked_group_limits.Goals as goal

pub returns : goal.returns
returns c = record {
  most_groups = most_groups;
  one_group_more = one_group_too_many;
  most_records = most_privileges;
  one_record_more =
      one_privilege_too_many;
}
