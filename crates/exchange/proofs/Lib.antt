pub mod Idles
