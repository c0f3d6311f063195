-- How the ghost values of an object go on from call to call: the words of `lib_base`, passed on.
pub use Rattle.lib_base.specs.Goes.{Goes, RoseByOneAtMost, RoseByOne}
