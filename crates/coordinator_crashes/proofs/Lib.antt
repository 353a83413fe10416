pub mod CrashSets
pub mod Crashes
