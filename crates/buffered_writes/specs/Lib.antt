pub mod Sending
pub use Rattle.spy_io.specs.Causes
