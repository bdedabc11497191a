mod Alike
mod Completing
mod Cut
mod Ending
mod Expanding
mod Printed
mod Reports
mod CrowdedFaults
