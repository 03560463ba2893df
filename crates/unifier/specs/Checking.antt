-- Laws of answers that tell whether something holds, passed on from `bindings` to callers that test storage.
pub use Rattle.bindings.specs.Checking.{tells_yes, tells_no, tells_false}
