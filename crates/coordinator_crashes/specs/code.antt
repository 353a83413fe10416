pub mod CrashSets
