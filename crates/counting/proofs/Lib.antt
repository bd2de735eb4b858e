mod Exact
mod Calls
