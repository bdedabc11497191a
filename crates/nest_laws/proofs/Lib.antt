pub mod lemmas
mod Licensed
mod Exactly
mod Walks
mod PlainLogs
mod MemberTasks
mod FreeGroups
mod Ancestry
mod ManyGroups
mod ManyPrivileges
